use Rattle.std.proofs.Common.{◌≡◌, map, take}
use Rattle.overlay_harness.specs.Shown.{shown}
use Rattle.overlay_harness.specs.Stages.{most_copies}
use Rattle.overlay_harness.proofs.enough.most_copies.Given as goal

abbrev pub invariant-loop-stage : goal.invariant-loop-stage
invariant-loop-stage l = l.most ≡ most_copies (map shown (take l.stage-index l.stages))
