use Rattle.std.proofs.Common.{sym, arith}
use Rattle.text_writer.proofs.Digits.{number_digit, letter_digit}
use Rattle.text_writer.proofs.digit.Goals as goal

pub returns-then-value-lt10 : goal.returns-then-value-lt10
returns-then-value-lt10 c = sym (number_digit c.args.value (omega arith))

pub returns-else-value-lt10 : goal.returns-else-value-lt10
returns-else-value-lt10 c = sym (letter_digit c.args.value (omega arith) (omega arith))
