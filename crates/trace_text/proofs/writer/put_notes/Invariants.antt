use Rattle.std.proofs.Common.{map, take}
use Rattle.trace_text.specs.Lines as lines
use Rattle.trace_text.specs.Writing.{WritesLines}
use Rattle.trace_text.proofs.writer.put_notes.Given as goal

abbrev pub invariant-loop-note : goal.invariant-loop-note
invariant-loop-note l = WritesLines l.initial.text l.text (map lines.Note (take l.note-index l.notes))
