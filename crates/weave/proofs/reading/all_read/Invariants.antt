use Rattle.std.proofs.Common.{All, take}
use Rattle.weave_laws.specs.Cells.{History}
use Rattle.weave.specs.ByStamp.{kept_in}
use Rattle.weave.specs.Cells.{histories}
use Rattle.weave.proofs.Missing.{AreAllTaken}
use Rattle.weave.proofs.reading.all_read.Given as goal

-- what the cells so far sent is among them
abbrev pub invariant-loop-cell : goal.invariant-loop-cell
invariant-loop-cell l = All (λ (h : History). AreAllTaken (kept_in l.taken) h.entries) (histories (take l.cell-index l.cells))
