use Rattle.wire_codec.proofs.Refusals.{never_refused}
use Rattle.wire_codec.proofs.laws.no_spelling_is_refused.Goals as goal

pub returns : goal.returns
returns c = never_refused
