use Rattle.std.proofs.Common.{vec_len}
use Rattle.delivery_report.proofs.tests.record_of.Given as goal

abbrev pub decreases-loop-answer : goal.decreases-loop-answer
decreases-loop-answer l = vec_len l.answers
