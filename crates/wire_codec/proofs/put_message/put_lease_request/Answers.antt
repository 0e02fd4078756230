use Rattle.wire_codec.proofs.Written.{writes_then}
use Rattle.wire_codec.proofs.put_message.put_lease_request.Goals as goal

pub returns : goal.returns
returns c = writes_then c.in_ok-put_attempt.ensures (writes_then c.in_ok-put_id.ensures c.in_ok-put_id-2.ensures)
