use Rattle.course_picture.proofs.Columns.{columns-rise}
use Rattle.course_picture.proofs.laws.nodes_stand_apart.Goals as goal

pub returns : goal.returns
returns c = columns-rise
