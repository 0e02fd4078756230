use Rattle.course_picture.proofs.Drawn.{arrows-all}
use Rattle.course_picture.proofs.laws.each_arrow_is_of_a_message.Goals as goal

pub returns : goal.returns
returns c = arrows-all
