use Rattle.trace_text.proofs.Digits.{odd_digits}
use Rattle.trace_text.proofs.words.bytes_in.Goals as goal

pub returns-then-text-ne0-clause-refused : goal.returns-then-text-ne0-clause-refused
returns-then-text-ne0-clause-refused c = λ bytes digits. odd_digits c.args.text.now bytes c.if-text-ne0.true digits
