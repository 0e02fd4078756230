use Rattle.overlay_harness.specs.Time.{room}
use Rattle.overlay_harness.proofs.HandOver.{IsHandedTo}
use Rattle.overlay_harness.proofs.hand.hand_over_unread.Given as goal

abbrev pub invariant-loop-waiting : goal.invariant-loop-waiting
invariant-loop-waiting l = IsHandedTo l.ends l.fn.cells l.cells

abbrev pub decreases-loop-waiting : goal.decreases-loop-waiting
decreases-loop-waiting l = room l.ends l.cells
