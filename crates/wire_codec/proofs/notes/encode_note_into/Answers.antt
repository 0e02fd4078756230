use Rattle.wire_codec.proofs.Noted.{written_spells}
use Rattle.wire_codec.proofs.notes.encode_note_into.Goals as goal

pub returns : goal.returns
returns c = written_spells c.clear.ensures.items c.in_ok-put_note.ensures
