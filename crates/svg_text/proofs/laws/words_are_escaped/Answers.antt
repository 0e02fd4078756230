use Rattle.svg_text.proofs.Plain.{escaped-plain}
use Rattle.svg_text.proofs.laws.words_are_escaped.Goals as goal

pub returns : goal.returns
returns c = escaped-plain
