use Rattle.std.proofs.Common.{◌≡◌, take}
use Rattle.weave.specs.ByStamp.{envelopes_at}
use Rattle.weave.specs.Cells.{histories}
use Rattle.weave.specs.Taken.{all_came}
use Rattle.weave.proofs.reading.all_taken.Given as goal

-- what the cells so far took in
abbrev pub invariant-loop-cell : goal.invariant-loop-cell
invariant-loop-cell l = envelopes_at l.taken.items ≡ all_came (histories (take l.cell-index l.cells))
