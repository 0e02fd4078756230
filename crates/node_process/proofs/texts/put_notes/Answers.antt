use Rattle.node_process.specs.Texts.{note_line}
use Rattle.node_process.proofs.Writing.{one_more}
use Rattle.node_process.proofs.texts.put_notes.Goals as goal

pub loop-note-preserved : goal.loop-note-preserved
loop-note-preserved c =
    one_more note_line c.args.text.now c.loop-note.text c.put_note.new.text c.args.notes.now c.loop-note.note-index c.note-item.result
    c.loop-note.invariant c.loop-note-test.true c.note-item.is c.in_ok-put_note.ensures
