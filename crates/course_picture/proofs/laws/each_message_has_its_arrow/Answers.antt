use Rattle.course_picture.proofs.Drawn.{arrows-delivery, arrows-sent}
use Rattle.course_picture.proofs.laws.each_message_has_its_arrow.Goals as goal

pub returns-clause-delivered : goal.returns-clause-delivered
returns-clause-delivered c = arrows-delivery

pub returns-clause-sent : goal.returns-clause-sent
returns-clause-sent c = arrows-sent
