use Rattle.trace_text.proofs.Complete.{follows_where}
use Rattle.trace_text.proofs.laws.a_line_follows_where_a_trace_goes_on.Goals as goal

pub returns : goal.returns
returns c = follows_where
