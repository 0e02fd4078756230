-- The fields of each note are written in order.
use Rattle.wire_codec.proofs.Written.{asked_then, writes_then}
use Rattle.wire_codec.proofs.put_note.put_note.Goals as goal

pub returns-in_ok-put_hops-in-Delivered : goal.returns-in_ok-put_hops-in-Delivered
returns-in_ok-put_hops-in-Delivered c = rw c.in-Delivered.is
    (writes_then c.in_ok-put_tag-in-Delivered.ensures (asked_then c.in_ok-put_asked-in-Delivered.ensures
    (writes_then c.in_ok-put_id-in-Delivered.ensures c.in_ok-put_hops-in-Delivered.ensures)))

pub returns-in_ok-put_reply-in-Answered : goal.returns-in_ok-put_reply-in-Answered
returns-in_ok-put_reply-in-Answered c = rw c.in-Answered.is
    (writes_then c.in_ok-put_tag-in-Answered.ensures (asked_then c.in_ok-put_asked-in-Answered.ensures c.in_ok-put_reply-in-Answered.ensures))
