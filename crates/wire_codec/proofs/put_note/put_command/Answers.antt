-- The fields of each command are written in order.
use Rattle.wire_codec.proofs.Written.{writes_then}
use Rattle.wire_codec.proofs.put_note.put_command.Goals as goal

pub returns-in_ok-put_id-in-Join : goal.returns-in_ok-put_id-in-Join
returns-in_ok-put_id-in-Join c = rw c.in-Join.is (writes_then c.in_ok-put_tag-in-Join.ensures c.in_ok-put_id-in-Join.ensures)

pub returns-in_ok-put_id-in-Lookup : goal.returns-in_ok-put_id-in-Lookup
returns-in_ok-put_id-in-Lookup c = rw c.in-Lookup.is (writes_then c.in_ok-put_tag-in-Lookup.ensures c.in_ok-put_id-in-Lookup.ensures)
