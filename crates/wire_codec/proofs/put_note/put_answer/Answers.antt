-- The fields of each answer are written in order.
use Rattle.wire_codec.proofs.Written.{writes_then}
use Rattle.wire_codec.proofs.put_note.put_answer.Goals as goal

pub returns-in_ok-put_id-in-Joined-2 : goal.returns-in_ok-put_id-in-Joined-2
returns-in_ok-put_id-in-Joined-2 c = rw c.in-Joined.is
    (writes_then c.in_ok-put_tag-in-Joined.ensures (writes_then c.in_ok-put_id-in-Joined.ensures c.in_ok-put_id-in-Joined-2.ensures))

pub returns-in_ok-put_why-in-Denied : goal.returns-in_ok-put_why-in-Denied
returns-in_ok-put_why-in-Denied c = rw c.in-Denied.is
    (writes_then c.in_ok-put_tag-in-Denied.ensures (writes_then c.in_ok-put_id-in-Denied.ensures c.in_ok-put_why-in-Denied.ensures))

pub returns-in_ok-put_own-in-Stopped : goal.returns-in_ok-put_own-in-Stopped
returns-in_ok-put_own-in-Stopped c = rw c.in-Stopped.is
    (writes_then c.in_ok-put_tag-in-Stopped.ensures (writes_then c.in_ok-put_id-in-Stopped.ensures c.in_ok-put_own-in-Stopped.ensures))
