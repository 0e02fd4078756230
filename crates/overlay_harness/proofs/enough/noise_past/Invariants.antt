use Rattle.std.proofs.Common.{◌≡◌, ◌-◌, map, take}
use Rattle.overlay_harness.specs.Shown.{shown}
use Rattle.overlay_harness.specs.Stages.{noise_for}
use Rattle.overlay_harness.proofs.enough.noise_past.Given as goal

-- what the stages so far have is taken off
abbrev pub invariant-loop-stage : goal.invariant-loop-stage
invariant-loop-stage l = l.past ≡ l.came - noise_for l.node (map shown (take l.stage-index l.stages))
