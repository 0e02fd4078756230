use Rattle.std.proofs.Common.{◌≡◌, ◌++◌, drop}
use Rattle.message_table.specs.Entries.{note_lines}
use Rattle.message_table.proofs.notes.put_notes.Given as goal

abbrev pub invariant-loop-note : goal.invariant-loop-note
invariant-loop-note l = l.text ++ note_lines l.labels l.node (drop l.note-index l.notes) ≡ l.initial.text ++ note_lines l.labels l.node l.notes
