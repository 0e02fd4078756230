use Rattle.course_picture.proofs.InOrder.{in-order}
use Rattle.course_picture.proofs.laws.legal_records_are_in_order.Goals as goal

pub returns : goal.returns
returns c = in-order
