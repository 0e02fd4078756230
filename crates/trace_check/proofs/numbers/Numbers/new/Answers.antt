use Rattle.trace_check.proofs.Numbering.{AreNumbersOf-none}
use Rattle.trace_check.proofs.numbers.Numbers.new.Goals as goal

pub returns : goal.returns
returns c = AreNumbersOf-none (record { used = c.new.result; greatest = c.new-2.result }) c.new.ensures.empty c.new-2.ensures.empty
