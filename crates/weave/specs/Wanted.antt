-- What is sought among what entries sent: an envelope for a node, and none of those that were taken.
use Rattle.std.specs.Prelude.{◌≡◌, ◌<◌, ◌==◌, if◌then◌else◌, ℕ, Option, Some, None, List, [], ◌∷◌, ◌++◌, All, Contains, slice_get}
use Rattle.std.specs.List.{flat_map}
use Rattle.ring_math.specs.Names.{Id}
use Rattle.wire_msg.specs.Words.{Envelope, plain_envelope}
use Rattle.weave_laws.specs.Cells.{CellInput, Command, Comes, Noise}
use Rattle.weave_laws.specs.Woven.{Act}
use Rattle.weave.specs.declared.waiting.Unread.{Unread}
use Rattle.weave.specs.Placed.{Placed}
use Rattle.weave.specs.Stops.{IsNamed}

-- the envelope that an entry took in, if it is one for this node
abbrev pub taken_in : Id → CellInput → List Envelope
taken_in x (Command n c) = []
taken_in x (Comes v) = if v.receiver == x then v ∷ [] else []
taken_in x Noise = []

abbrev pub taken_by : Id → List Act → List Envelope
taken_by x acts = flat_map (λ (a : Act). taken_in x a.entry.input) acts

-- for this node, and not among those taken
pub record IsWanted (taken : List Envelope) (receiver : Id) (v : Envelope) : Type 0 where
  pub addressed : v.receiver ≡ receiver
  pub untaken : Contains taken v → ⊥

-- none of these is
pub record HasNoWanted (taken : List Envelope) (receiver : Id) (vs : List Envelope) : Type 0 where
  pub none : (m : ℕ) (w : Envelope) → slice_get vs m ≡ Some w → IsWanted taken receiver w → ⊥

-- the first of these that is
pub record IsFirstWanted (taken : List Envelope) (receiver : Id) (vs : List Envelope) (v : Envelope) : Type 0 where
  pub n : ℕ
  pub there : slice_get vs n ≡ Some v
  pub wanted : IsWanted taken receiver v
  pub earlier : (m : ℕ) (w : Envelope) → m < n → slice_get vs m ≡ Some w → IsWanted taken receiver w → ⊥

-- the first among what these entries sent, with the entry
pub record IsFoundIn (taken : List Envelope) (receiver : Id) (ps : List Placed) (u : Unread) : Type 0 where
  pub before : List Placed
  pub stop : Placed
  pub behind : List Placed
  pub split : ps ≡ before ++ stop ∷ behind
  pub earlier : All (λ (p : Placed). HasNoWanted taken receiver p.act.entry.sent) before
  pub named : IsNamed stop u.node u.place
  pub first : IsFirstWanted taken receiver stop.act.entry.sent (plain_envelope u.envelope)

abbrev pub IsFound : List Envelope → Id → List Placed → Option Unread → Type 0
IsFound taken receiver ps (Some u) = IsFoundIn taken receiver ps u
IsFound taken receiver ps None = All (λ (p : Placed). HasNoWanted taken receiver p.act.entry.sent) ps

-- what is among the ones is among the others
pub record HasSame (vs ws : List Envelope) : Type 0 where
  pub there : (v : Envelope) → Contains vs v → Contains ws v
  pub back : (v : Envelope) → Contains ws v → Contains vs v
