use Rattle.wire_codec.proofs.Frames.{prefix_free}
use Rattle.wire_codec.proofs.laws.no_spelling_begins_another.Goals as goal

pub returns : goal.returns
returns c = prefix_free
