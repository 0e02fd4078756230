use Rattle.wire_codec.proofs.Frames.{one_envelope}
use Rattle.wire_codec.proofs.laws.bytes_spell_one_envelope.Goals as goal

pub returns : goal.returns
returns c = one_envelope
