use Rattle.std.specs.Prelude.{All}
use Rattle.weave.specs.Cells.{HasNoPasses}
use Rattle.weave.proofs.tests.hand_over.Given as goal

-- no cell has passes
abbrev pub invariant-loop-place : goal.invariant-loop-place
invariant-loop-place l = record { without : All HasNoPasses l.cells }
