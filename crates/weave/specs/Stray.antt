-- Envelopes that came in and were sent in no history.
use Rattle.std.specs.Prelude.{◌≡◌, ℕ, List, All, Contains}
use Rattle.ring_math.specs.Names.{Id}
use Rattle.wire_msg.specs.Words.{Envelope, plain_envelope}
use Rattle.weave_laws.specs.Cells.{CellEntry, History, Comes}
use Rattle.weave_laws.specs.Woven.{ComesBefore}
use Rattle.weave.specs.Placed.{StandsAt}
use Rattle.weave.specs.declared.fault.WeaveFault.{WeaveFault}
use Rattle.weave.specs.declared.fault.WeaveFault.TheVariants as fault

-- no history sent it
abbrev pub IsSentByNone : List History → Envelope → Type 0
IsSentByNone hs v = All (λ (h : History). All (λ (e : CellEntry). Contains e.sent v → ⊥) h.entries) hs

-- the entry of this node at this place took it in, and no history sent it
pub record IsStray (hs : List History) (x : Id) (place : ℕ) (v : Envelope) : Type 0 where
  pub entry : CellEntry
  pub stands : StandsAt hs x place entry
  pub takes : entry.input ≡ Comes v
  pub unsent : IsSentByNone hs v

-- and no entry that took in such a one comes before it
pub record IsFirstStray (hs : List History) (x : Id) (place : ℕ) (v : Envelope) : Type 0 where
  pub stray : IsStray hs x place v
  pub first : (y : Id) (other : ℕ) (w : Envelope) → (s : IsStray hs y other w) →
      ComesBefore (record { node = y; entry = s.entry }) (record { node = x; entry = stray.entry }) → ⊥

-- why histories were not woven
abbrev pub IsDueTo : List History → WeaveFault → Type 0
IsDueTo hs (fault.Stray x place v) = IsFirstStray hs x place (plain_envelope v)
IsDueTo hs fault.OutOfMemory = Unit {0}
