use Rattle.std.proofs.Common.{map}
use Rattle.overlay_harness.specs.Shown.{shown}
use Rattle.overlay_harness.proofs.Staging.{IsStagedTo}
use Rattle.overlay_harness.proofs.stage.stages.Given as goal

-- the stages so far, and those to come
abbrev pub invariant-loop-place : goal.invariant-loop-place
invariant-loop-place l = IsStagedTo l.actions l.begin l.place l.copies (map shown l.stages.items)
