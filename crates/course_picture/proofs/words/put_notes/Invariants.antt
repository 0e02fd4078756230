use Rattle.std.proofs.Common.{◌≡◌, ◌++◌, take}
use Rattle.course_picture.specs.Words.{notes_words}
use Rattle.course_picture.proofs.words.put_notes.Given as goal

abbrev pub invariant-loop-note : goal.invariant-loop-note
invariant-loop-note l = l.text ≡ l.initial.text ++ notes_words l.names (take l.note-index l.notes)
