use Rattle.std.proofs.Common.{◌≡◌, ◌++◌, All}
use Rattle.std.specs.Vec.Iter.{into_iter_items}
use Rattle.weave.specs.Cells.{IsLawful, histories}
use Rattle.weave.proofs.given.given_by.Given as goal

-- the histories of the cells so far
abbrev pub invariant-loop-cell : goal.invariant-loop-cell
invariant-loop-cell l = record {
  all : l.fn.cells.items ≡ l.yielded ++ into_iter_items l.cell-iterator;
  history : l.strands.items ≡ histories l.yielded;
  lawful : All IsLawful l.yielded;
}
