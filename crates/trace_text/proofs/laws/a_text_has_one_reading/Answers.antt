use Rattle.trace_text.proofs.Unique.{one_trace}
use Rattle.trace_text.proofs.laws.a_text_has_one_reading.Goals as goal

pub returns : goal.returns
returns c = one_trace
