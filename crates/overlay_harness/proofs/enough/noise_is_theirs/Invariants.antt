use Rattle.std.proofs.Common.{All, map, take}
use Rattle.weave_laws.specs.Cells.{History}
use Rattle.weave.specs.Cells.{histories}
use Rattle.overlay_harness.specs.Clauses.{HasItsNoise}
use Rattle.overlay_harness.specs.Ran.{inputs_in}
use Rattle.overlay_harness.specs.Shown.{shown}
use Rattle.overlay_harness.proofs.enough.noise_is_theirs.Given as goal

abbrev pub invariant-loop-cell : goal.invariant-loop-cell
invariant-loop-cell l = All (λ (h : History). HasItsNoise (map shown l.stages) h.node (inputs_in h)) (histories (take l.cell-index l.cells))
