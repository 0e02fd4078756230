use Rattle.node_cell.specs.Equipped.{GoesOn, HasPassesOf}
use Rattle.cell_trials.proofs.mailboxes.post_all.Given as goal

abbrev pub invariant-loop : goal.invariant-loop
invariant-loop g l = record { of : HasPassesOf l.post l.cell; goes_on : GoesOn l.fn.cell l.cell }
