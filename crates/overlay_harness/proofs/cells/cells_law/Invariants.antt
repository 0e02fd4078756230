use Rattle.std.proofs.Common.{All, take}
use Rattle.weave.specs.Cells.{IsLawful}
use Rattle.overlay_harness.proofs.cells.cells_law.Given as goal

abbrev pub invariant-loop-cell : goal.invariant-loop-cell
invariant-loop-cell l = All IsLawful (take l.cell-index l.cells)
