use Rattle.std.proofs.Common.{◌≡◌, take}
use Rattle.overlay_harness.specs.Hand.{ends_after}
use Rattle.overlay_harness.proofs.hand.ends_after.Given as goal

abbrev pub invariant-loop-cell : goal.invariant-loop-cell
invariant-loop-cell l = l.ends.items ≡ ends_after l.more (take l.cell-index l.cells)
