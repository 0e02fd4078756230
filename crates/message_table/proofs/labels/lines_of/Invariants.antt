use Rattle.std.proofs.Common.{◌≡◌, take}
use Rattle.message_table.specs.Labels.{command_lines}
use Rattle.message_table.proofs.labels.lines_of.Given as goal

abbrev pub invariant-loop-action : goal.invariant-loop-action
invariant-loop-action l = l.lines.items ≡ command_lines (take l.action-index l.actions)
