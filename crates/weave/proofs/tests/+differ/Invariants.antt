use Rattle.std.proofs.Common.{length}
use Rattle.weave.proofs.tests.+differ.Given as goal

abbrev pub decreases-differ : goal.decreases-differ
decreases-differ l = length l.cells.now
