-- A gatekeeper's links and gates, without the lists: what it says to a request for a lease, and how they change.
use Rattle.std.specs.Prelude.{Bool, true, false, not, ◌&&◌, ◌||◌, nat_lt, ◌==◌, if◌then◌else◌, Option, Some, None}
use Rattle.ring_math.specs.Names.{Id, Attempt}
use Rattle.ring_math.specs.Ring.{is_between}
use Rattle.coverage.specs.Coverage.{or_else}
use Rattle.overlay_rules.specs.declared.gate.Gate.{Gate}
use Rattle.overlay_rules.specs.declared.gate.Verdict.{Verdict}
use Rattle.overlay_rules.specs.declared.gate.Verdict.TheVariants.{Grant, Again, Busy, Moved}

pub record Links : Type 0 where
  pub left : Id
  pub right : Id
  pub left_gate : Option Gate
  pub right_gate : Option Gate

-- the gate is this joiner's with this attempt
abbrev pub is_of : Id → Attempt → Gate → Bool
is_of j a g = (g.joiner == j) && (g.attempt == a)

-- the gate is this joiner's with an older attempt
abbrev pub is_older : Id → Attempt → Gate → Bool
is_older j a g = (g.joiner == j) && nat_lt g.attempt a

abbrev pub is_gate_of : Id → Attempt → Option Gate → Bool
is_gate_of j a None = false
is_gate_of j a (Some g) = is_of j a g

-- the gate, taken away where the test holds
abbrev pub unless : (Gate → Bool) → Option Gate → Option Gate
unless test None = None
unless test (Some g) = if test g then None else Some g

-- the gate that a request for a lease asks for: on the right side of me where its left is me, and on the left side where its right is
abbrev pub asked_for : Id → Attempt → Id → Id → Gate
asked_for j a l r = record { joiner = j; attempt = a; left = l; right = r }

-- each side that is asked for has a gate that is this joiner's with this attempt, and some side is asked for
abbrev pub is_again : Links → Id → Gate → Bool
is_again k me g =
    ((me == g.left) || (me == g.right))
    && ((not (me == g.left) || is_gate_of g.joiner g.attempt k.right_gate) && (not (me == g.right) || is_gate_of g.joiner g.attempt k.left_gate))

-- the joiner of a gate on a side that is asked for
abbrev pub busy_with : Bool → Option Gate → Option Id
busy_with true (Some g) = Some g.joiner
busy_with true None = None
busy_with false g = None

-- who stands in the way once the joiner's older gates are gone, on the right first
abbrev pub blocked_by : Links → Id → Gate → Option Id
blocked_by k me g =
    or_else (busy_with (me == g.left) (unless (is_older g.joiner g.attempt) k.right_gate))
    (busy_with (me == g.right) (unless (is_older g.joiner g.attempt) k.left_gate))

-- the joiner stands between the two, a side is asked for, and the links on the sides asked for are those two
abbrev pub fits : Links → Id → Gate → Bool
fits k me g =
    is_between g.left g.joiner g.right
    && (((me == g.left) || (me == g.right)) && ((not (me == g.left) || (k.right == g.right)) && (not (me == g.right) || (k.left == g.left))))

abbrev pub verdict_unless : Links → Id → Gate → Option Id → Verdict
verdict_unless k me g (Some i) = Busy i
verdict_unless k me g None = if fits k me g then Grant else Moved k.left k.right

-- what me says to a request for a lease
abbrev pub verdict : Links → Id → Gate → Verdict
verdict k me g = if is_again k me g then Again else verdict_unless k me g (blocked_by k me g)

abbrev pub gate_on : {A : Type 0} → Bool → A → Option A → Option A
gate_on true new old = Some new
gate_on false new old = old

-- without the joiner's gates of older attempts
abbrev pub cleared_links : Links → Id → Attempt → Links
cleared_links k j a = record k { left_gate = unless (is_older j a) k.left_gate; right_gate = unless (is_older j a) k.right_gate }

abbrev pub gated_links : Links → Id → Gate → Links
gated_links k me g = record k { left_gate = gate_on (me == g.right) g k.left_gate; right_gate = gate_on (me == g.left) g k.right_gate }

-- what a request makes of the links, by the verdict
abbrev pub asked_links : Links → Id → Gate → Verdict → Links
asked_links k me g Again = k
asked_links k me g Grant = gated_links (cleared_links k g.joiner g.attempt) me g
asked_links k me g (Busy i) = cleared_links k g.joiner g.attempt
asked_links k me g (Moved x y) = cleared_links k g.joiner g.attempt

-- Release
abbrev pub released_links : Links → Id → Attempt → Links
released_links k j a = record k { left_gate = unless (is_of j a) k.left_gate; right_gate = unless (is_of j a) k.right_gate }

-- some gate is this joiner's with this attempt
abbrev pub holds_gate : Links → Id → Attempt → Bool
holds_gate k j a = is_gate_of j a k.left_gate || is_gate_of j a k.right_gate

-- the joiner, where the side's gate is its, else the link
abbrev pub link_after : Id → Attempt → Option Gate → Id → Id
link_after j a gate link = if is_gate_of j a gate then j else link

-- Confirm
abbrev pub confirmed_links : Links → Id → Attempt → Links
confirmed_links k j a =
    record {
      left = link_after j a k.left_gate k.left;
      right = link_after j a k.right_gate k.right;
      left_gate = unless (is_of j a) k.left_gate;
      right_gate = unless (is_of j a) k.right_gate;
    }
