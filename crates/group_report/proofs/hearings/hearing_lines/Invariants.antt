use Rattle.std.proofs.Common.{◌≡◌, ◌++◌, drop, take}
use Rattle.scribe_core.specs.Record.{sent_in}
use Rattle.group_report.specs.Hearings.{hearing_lines, lines_after}
use Rattle.group_report.proofs.hearings.hearing_lines.Given as goal

-- with the lines of the entries that are left, the lines of all are written
abbrev pub invariant-loop-place : goal.invariant-loop-place
invariant-loop-place l =
    l.text ++ lines_after l.names (sent_in (take l.place l.steps)) (drop l.place l.steps) ≡ l.initial.text ++ hearing_lines l.names l.steps
