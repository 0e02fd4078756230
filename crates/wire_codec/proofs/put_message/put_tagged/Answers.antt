use Rattle.wire_codec.proofs.Written.{writes_then}
use Rattle.wire_codec.proofs.put_message.put_tagged.Goals as goal

pub returns : goal.returns
returns c = writes_then c.in_ok-put_tag.ensures c.in_ok-put_id.ensures
