use Rattle.std.proofs.Common.{rules, append_assoc}
use Rattle.std.proofs.lemmas.Result.{IfOk-equal}
use Rattle.delivery_report.proofs.deliveries.delivery_line.Goals as goal

pub returns : goal.returns
returns c = rw c.in-Delivered.is (search (rules, IfOk-equal, append_assoc))
