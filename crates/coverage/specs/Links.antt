-- Links and gates of the ready nodes, one definition for both sides of a node: `right` is true on the right.
use Rattle.std.specs.Prelude.{◌≡◌, ◌≤◌, ◌<◌, ◌^◌, ◌⊎◌, Bool, true, false, Option, Some, None}
use Rattle.ring_math.specs.Names.{Id, Key, Attempt}
use Rattle.ring_math.specs.Ring.{is_between}
use Rattle.ring_math.specs.Members.{IsSucc, IsPred, InRing}
use Rattle.coverage.specs.declared.Reach.{Reach}
use Rattle.coverage.specs.Coverage.{in_gap_of}

-- the set that a test tells, as that of the ready nodes
abbrev pub members : (Id → Bool) → Id → Type 0
members test z = test z ≡ true

-- y is x's neighbour among P on that side
abbrev pub IsNext : Bool → (Id → Type 0) → Id → Id → Type 0
IsNext true P x y = IsSucc P x y
IsNext false P x y = IsPred P x y

-- i stands strictly between x and y, going from x to that side
abbrev pub stands : Bool → Id → Id → Id → Bool
stands true x i y = is_between x i y
stands false x i y = is_between y i x

-- whose a gate is
pub record Lease : Type 0 where
  pub joiner : Id
  pub attempt : Attempt

-- a node's link on a side, and its gate there
pub record Side : Type 0 where
  pub link : Id
  pub gate : Option Lease

-- a gate of x: its joiner stands before the link, which is the true neighbour until the joiner is a member, and the joiner is afterwards
pub record HasGate (right : Bool) (P : Id → Type 0) (attempt_of : Id → Attempt) (x link : Id) (gate : Lease) : Type 0 where
  pub bound : gate.joiner < 2 ^ 128
  pub between : stands right x gate.joiner link ≡ true
  pub attempt : gate.attempt ≤ attempt_of gate.joiner
  pub before : (P gate.joiner → ⊥) → IsNext right P x link
  pub after : P gate.joiner → (attempt_of gate.joiner ≡ gate.attempt) × IsNext right P x gate.joiner

-- a side of x: without a gate its link is the true neighbour
pub record HasSide (right : Bool) (P : Id → Type 0) (attempt_of : Id → Attempt) (x : Id) (side : Side) : Type 0 where
  pub free : side.gate ≡ None → IsNext right P x side.link
  pub gated : (gate : Lease) → side.gate ≡ Some gate → HasGate right P attempt_of x side.link gate

-- the members of P, each with its two sides
pub record IsRing (P : Id → Type 0) (attempt_of : Id → Attempt) (sides : Id → Bool → Side) : Type 0 where
  pub in_ring : InRing P
  pub side : (right : Bool) (x : Id) → P x → HasSide right P attempt_of x (sides x right)

abbrev pub joiner_of : Option Lease → Option Id
joiner_of None = None
joiner_of (Some gate) = Some gate.joiner

-- the reach of a node with these sides
abbrev pub reach_of : Id → (Bool → Side) → Reach
reach_of me sides = record {
  me = me;
  left = (sides false).link;
  right = (sides true).link;
  left_joiner = joiner_of (sides false).gate;
  right_joiner = joiner_of (sides true).gate;
}

-- the key is in the gap of a joiner that is no member
pub record KeepsFor (P : Id → Type 0) (r : Reach) (key : Key) (j : Id) : Type 0 where
  pub joiner : (r.right_joiner ≡ Some j) ⊎ (r.left_joiner ≡ Some j)
  pub absent : P j → ⊥
  pub gap : in_gap_of r j key ≡ true
