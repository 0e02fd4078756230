use Rattle.trace_text.proofs.Digits.{digits_lower}
use Rattle.trace_text.proofs.lanes.read_digits.Goals as goal

pub returns-then-bytes-lt-LANES-clause-spelled : goal.returns-then-bytes-lt-LANES-clause-spelled
returns-then-bytes-lt-LANES-clause-spelled c = λ spelled digits. c.read_few.ensures.spelled (digits_lower c.args.text.now spelled digits)

pub returns-else-bytes-lt-LANES-clause-spelled : goal.returns-else-bytes-lt-LANES-clause-spelled
returns-else-bytes-lt-LANES-clause-spelled c = λ spelled digits. c.read_many.ensures.spelled (digits_lower c.args.text.now spelled digits)
