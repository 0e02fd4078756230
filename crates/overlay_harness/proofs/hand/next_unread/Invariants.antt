use Rattle.std.proofs.Common.{ℕ, ◌<◌}
use Rattle.overlay_harness.specs.Hand.{IsDoneAt}
use Rattle.overlay_harness.proofs.hand.next_unread.Given as goal

-- each place before is done
abbrev pub invariant-loop-place : goal.invariant-loop-place
invariant-loop-place l = (p : ℕ) → p < l.place → IsDoneAt l.cells l.ends p
