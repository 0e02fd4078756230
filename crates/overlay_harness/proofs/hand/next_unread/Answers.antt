use Rattle.std.proofs.Common.{arith}
use Rattle.overlay_harness.proofs.HandOver.{all_done}
use Rattle.overlay_harness.proofs.hand.next_unread.Goals as goal

pub returns-clause-none : goal.returns-clause-none
returns-clause-none c = all_done c.args.cells.now c.args.ends.now c.requires.each (λ p lt. c.loop-place.invariant p (omega arith))
