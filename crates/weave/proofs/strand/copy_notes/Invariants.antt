use Rattle.std.proofs.Common.{◌≡◌, ◌++◌, take}
use Rattle.weave.proofs.strand.copy_notes.Given as goal

-- those so far are copied
abbrev pub invariant-loop-note : goal.invariant-loop-note
invariant-loop-note l = l.to.items ≡ l.fn.to.items ++ take l.note-index l.notes
