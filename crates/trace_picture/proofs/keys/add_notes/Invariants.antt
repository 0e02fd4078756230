use Rattle.std.proofs.Common.{◌≡◌, take}
use Rattle.trace_picture.specs.Keys.{with_notes}
use Rattle.trace_picture.proofs.keys.add_notes.Given as goal

-- those so far are added
abbrev pub invariant-loop-note : goal.invariant-loop-note
invariant-loop-note l = l.keys.items ≡ with_notes l.initial.keys.items (take l.note-index l.notes)
