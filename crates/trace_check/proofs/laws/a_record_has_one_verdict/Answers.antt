use Rattle.trace_check.proofs.Reaching.{one_verdict}
use Rattle.trace_check.proofs.laws.a_record_has_one_verdict.Goals as goal

pub returns : goal.returns
returns c = one_verdict
