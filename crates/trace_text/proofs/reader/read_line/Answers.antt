use Rattle.trace_text.proofs.Refused.{no_form}
use Rattle.trace_text.proofs.reader.read_line.Goals as goal

pub returns-in-None : goal.returns-in-None
returns-in-None c = λ l is.
    no_form c.args.text.now c.in-Some.word.now c.in-Some.operands.now l c.in-Some.ensures.0 c.in-Some.ensures.1 c.in-None.ensures is
