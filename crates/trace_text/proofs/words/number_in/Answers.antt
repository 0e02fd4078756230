use Rattle.std.proofs.Common.{sym}
use Rattle.trace_text.proofs.Ids.{number_spelled, number_not_read}
use Rattle.trace_text.proofs.words.number_in.Goals as goal

pub returns-in-Some : goal.returns-in-Some
returns-in-Some c = number_spelled c.args.text.now c.in-Some.n (sym c.in-Some.ensures)

pub returns-in-None : goal.returns-in-None
returns-in-None c = λ n spelled. number_not_read c.args.text.now n (sym c.in-None.ensures) spelled
