use Rattle.std.proofs.Common.{◌≡◌, ◌+◌, ◌++◌, drop, map}
use Rattle.std.specs.Option.{option_copied}
use Rattle.delivery_report.specs.Report.{lines_from, command_lines}
use Rattle.delivery_report.proofs.closings.command_lines.Given as goal

-- the lines so far and those still to come
abbrev pub invariant-loop-place : goal.invariant-loop-place
invariant-loop-place l =
    l.text ++ lines_from l.names (l.place + 1) (map option_copied (drop l.place l.closing-items)) ≡ l.initial.text ++ command_lines l.names l.commands l.entries
