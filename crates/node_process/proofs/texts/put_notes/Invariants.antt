use Rattle.std.proofs.Common.{◌≡◌, ◌++◌, take}
use Rattle.std.specs.List.{flat_map}
use Rattle.node_process.specs.Texts.{note_line}
use Rattle.node_process.proofs.texts.put_notes.Given as goal

-- the lines so far are written
abbrev pub invariant-loop-note : goal.invariant-loop-note
invariant-loop-note l = l.text ≡ l.initial.text ++ flat_map note_line (take l.note-index l.notes)
