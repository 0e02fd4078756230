-- The fields of each why are written in order.
use Rattle.wire_codec.proofs.Written.{writes_then}
use Rattle.wire_codec.proofs.put_message.put_why.Goals as goal

pub returns-in_ok-put_id-in-Busy : goal.returns-in_ok-put_id-in-Busy
returns-in_ok-put_id-in-Busy c = rw c.in-Busy.is (writes_then c.in_ok-put_tag-in-Busy.ensures c.in_ok-put_id-in-Busy.ensures)

pub returns-in_ok-put_id-in-Moved-2 : goal.returns-in_ok-put_id-in-Moved-2
returns-in_ok-put_id-in-Moved-2 c = rw c.in-Moved.is (writes_then c.in_ok-put_tag-in-Moved.ensures
    (writes_then c.in_ok-put_id-in-Moved.ensures c.in_ok-put_id-in-Moved-2.ensures))
