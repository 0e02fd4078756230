-- Where the weaving of entries stops.
use Rattle.std.specs.Prelude.{◌≡◌, ℕ, List, ◌++◌, ◌∷◌, All, Contains}
use Rattle.ring_math.specs.Names.{Id}
use Rattle.wire_msg.specs.Words.{Envelope, plain_envelope}
use Rattle.weave_laws.specs.Cells.{CellInput, Command, Comes, Noise}
use Rattle.weave.specs.Placed.{Placed}
use Rattle.weave.specs.declared.fault.WeaveFault.{WeaveFault}
use Rattle.weave.specs.declared.fault.WeaveFault.TheVariants as fault
use Rattle.weave.specs.declared.stop.Stop.{Stop}
use Rattle.weave.specs.declared.stop.Stop.TheVariants as stop

-- an envelope that comes in was sent
abbrev pub IsAnswered : List Envelope → CellInput → Type 0
IsAnswered sent (Command n c) = Unit {0}
IsAnswered sent (Comes v) = Contains sent v
IsAnswered sent Noise = Unit {0}

-- this entry took in an envelope that was not sent
pub record IsStrayOf (sent : List Envelope) (p : Placed) (v : Envelope) : Type 0 where
  pub takes : p.act.entry.input ≡ Comes v
  pub unsent : Contains sent v → ⊥

-- the fault names what this entry took in
pub record IsNamed (p : Placed) (x : Id) (place : ℕ) : Type 0 where
  pub node : p.act.node ≡ x
  pub at : p.place ≡ place

abbrev pub IsStopAt : List Envelope → Placed → WeaveFault → Type 0
IsStopAt sent p (fault.Stray x place v) = IsNamed p x place × IsStrayOf sent p (plain_envelope v)
IsStopAt sent p fault.OutOfMemory = Unit {0}

-- this entry took in some envelope that was not sent
pub record Strays (sent : List Envelope) (p : Placed) : Type 0 where
  pub envelope : Envelope
  pub stray : IsStrayOf sent p envelope

-- weaving halts at this entry, as it says
abbrev pub IsHaltAt : List Envelope → Placed → Stop → Type 0
IsHaltAt sent p stop.Stray = Strays sent p
IsHaltAt sent p stop.OutOfMemory = Unit {0}

-- the entries before it took in what was sent
pub record StopsWithin (sent : List Envelope) (ps : List Placed) (f : WeaveFault) : Type 0 where
  pub before : List Placed
  pub stop : Placed
  pub behind : List Placed
  pub split : ps ≡ before ++ stop ∷ behind
  pub earlier : All (λ (p : Placed). IsAnswered sent p.act.entry.input) before
  pub named : IsStopAt sent stop f

abbrev pub StopsAt : List Envelope → List Placed → WeaveFault → Type 0
StopsAt sent ps (fault.Stray x place v) = StopsWithin sent ps (fault.Stray x place v)
StopsAt sent ps fault.OutOfMemory = Unit {0}
