use Rattle.trace_text.proofs.Unique.{no_fault}
use Rattle.trace_text.proofs.laws.no_trace_has_a_fault.Goals as goal

pub returns : goal.returns
returns c = no_fault
