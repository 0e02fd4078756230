use Rattle.delivery_report.proofs.answers.put_reply.Goals as goal

pub returns-in-Delivered : goal.returns-in-Delivered
returns-in-Delivered c = rw c.in-Delivered.is c.with_number.ensures

pub returns-in-Collision : goal.returns-in-Collision
returns-in-Collision c = rw c.in-Collision.is c.write_after-in-Collision.ensures

pub returns-in-NotReady : goal.returns-in-NotReady
returns-in-NotReady c = rw c.in-NotReady.is c.write_after-in-NotReady.ensures

pub returns-in-Reclaimed : goal.returns-in-Reclaimed
returns-in-Reclaimed c = rw c.in-Reclaimed.is c.write_after-in-Reclaimed.ensures
