use Rattle.std.proofs.Common.{◌≡◌, All, map, take}
use Rattle.weave.specs.Cells.{IsLawful, histories, kept_history}
use Rattle.weave.proofs.strand.lent_by.Given as goal

-- the histories of the cells so far
abbrev pub invariant-loop-cell : goal.invariant-loop-cell
invariant-loop-cell l = record {
  history : map (λ c. kept_history c.now) l.strands.items ≡ histories (take l.cell-index l.cells);
  lawful : All IsLawful (take l.cell-index l.cells);
}
