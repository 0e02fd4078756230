use Rattle.std.proofs.Common.{◌≡◌, length}
use Rattle.node_cell.specs.Equipped.{GoesOn, HasPassesOf}
use Rattle.overlay_harness.proofs.worker.post_all.Given as goal

abbrev pub invariant-loop : goal.invariant-loop
invariant-loop g l = record {
  passes : HasPassesOf l.post l.cell;
  goes_on : GoesOn l.fn.cell l.cell;
  history : l.cell.history ≡ l.fn.cell.history;
}

abbrev pub decreases-loop : goal.decreases-loop
decreases-loop g l = length l.cell.unsent
