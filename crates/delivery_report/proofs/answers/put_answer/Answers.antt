use Rattle.delivery_report.proofs.answers.put_answer.Goals as goal

pub returns-in-Joined : goal.returns-in-Joined
returns-in-Joined c = rw c.in-Joined.is c.with_other.ensures
