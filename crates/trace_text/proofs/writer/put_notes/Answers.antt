use Rattle.trace_text.specs.Lines as lines
use Rattle.trace_text.proofs.Written.{lines_more}
use Rattle.trace_text.proofs.writer.put_notes.Goals as goal

pub loop-note-preserved : goal.loop-note-preserved
loop-note-preserved c =
    lines_more lines.Note c.args.notes.now c.loop-note.note-index c.note-item.result c.args.text.now _ _ c.loop-note-test.true c.note-item.is
    c.loop-note.invariant c.in_ok-put_note.ensures
