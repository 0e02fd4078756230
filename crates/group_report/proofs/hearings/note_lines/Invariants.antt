use Rattle.std.proofs.Common.{◌≡◌, ◌++◌, take}
use Rattle.std.specs.Prelude.{flat_map}
use Rattle.group_report.specs.Hearings.{hearing_line}
use Rattle.group_report.proofs.hearings.note_lines.Given as goal

-- the lines of the notes so far are written
abbrev pub invariant-loop-note : goal.invariant-loop-note
invariant-loop-note l = l.text ≡ l.initial.text ++ flat_map (hearing_line l.names l.node) (take l.note-index l.notes)
