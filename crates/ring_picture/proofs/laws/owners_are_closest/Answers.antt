use Rattle.ring_picture.proofs.Showing.{owner-closest}
use Rattle.ring_picture.proofs.laws.owners_are_closest.Goals as goal

pub returns : goal.returns
returns c = owner-closest
