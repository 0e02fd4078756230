use Rattle.std.proofs.Common.{◌≡◌, take}
use Rattle.overlay_harness.specs.Fault.{choosing_lines, least}
use Rattle.overlay_harness.proofs.unfit.first_choosing_line.Given as goal

-- the first among the actions so far
abbrev pub invariant-loop-action : goal.invariant-loop-action
invariant-loop-action l = l.first ≡ least (choosing_lines (take l.action-index l.actions))
