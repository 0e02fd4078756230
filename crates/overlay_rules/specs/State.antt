-- What a node keeps.
use Rattle.std.specs.Prelude.{Bool, true, false, Option, Some, None, List, [], if◌then◌else◌}
use Rattle.ring_math.specs.Names.{Id, Attempt, Number}
use Rattle.ring_math.specs.declared.file.Held.{Held}
use Rattle.coverage.specs.declared.Reach.{Reach}
use Rattle.coverage.specs.GapFiles.{Lists}
use Rattle.overlay_rules.specs.declared.gate.Gate.{Gate}
use Rattle.overlay_rules.specs.declared.request.Pending.{Pending}

-- a gate, with what its joiner takes over
pub record Lease : Type 0 where
  pub gate : Gate
  pub lists : Lists

-- the attempt is that of the join under way, or of the last one; the number is that of the Join command
pub data Phase : Type 0 where
  Waiting : (attempt : Attempt) → Phase
  Asking : (attempt : Attempt) (number : Number) → Phase
  Probing : (attempt : Attempt) (number : Number) (probed : List (Id × Bool)) → Phase
  Leasing : (attempt : Attempt) (number : Number) (left right : Id) (from_left from_right : Option Lists) → Phase
  Ready : (attempt : Attempt) (left right : Id) → Phase

pub record State : Type 0 where
  pub me : Id
  pub phase : Phase
  pub left_gate : Option Lease
  pub right_gate : Option Lease
  pub known : List Id
  pub files : List Held
  pub pending : List Pending
  pub waiting : List Number

abbrev pub start : Id → Bool → State
start me founder =
    record {
      me = me;
      phase = if founder then Ready 0 me me else Waiting 1;
      left_gate = None;
      right_gate = None;
      known = [];
      files = [];
      pending = [];
      waiting = [];
    }

abbrev pub attempt_of : Phase → Attempt
attempt_of (Waiting a) = a
attempt_of (Asking a n) = a
attempt_of (Probing a n probed) = a
attempt_of (Leasing a n l r from_left from_right) = a
attempt_of (Ready a l r) = a

abbrev pub is_ready : Phase → Bool
is_ready (Ready a l r) = true
is_ready (Waiting a) = false
is_ready (Asking a n) = false
is_ready (Probing a n probed) = false
is_ready (Leasing a n l r from_left from_right) = false

-- in the midst of a join
abbrev pub is_joining : Phase → Bool
is_joining (Asking a n) = true
is_joining (Probing a n probed) = true
is_joining (Leasing a n l r from_left from_right) = true
is_joining (Waiting a) = false
is_joining (Ready a l r) = false

abbrev pub bare : Option Lease → Option Gate
bare None = None
bare (Some g) = Some g.gate

abbrev pub joiner_of : Option Lease → Option Id
joiner_of None = None
joiner_of (Some g) = Some g.gate.joiner

-- what coverage sees of a node with these links
abbrev pub reach : State → Id → Id → Reach
reach s left right =
    record { me = s.me; left = left; right = right; left_joiner = joiner_of s.left_gate; right_joiner = joiner_of s.right_gate }
