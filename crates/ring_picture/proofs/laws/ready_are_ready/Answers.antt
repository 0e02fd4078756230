use Rattle.ring_picture.proofs.Showing.{ready_shown, shown_ready}
use Rattle.ring_picture.proofs.laws.ready_are_ready.Goals as goal

pub returns : goal.returns
returns c = λ g w x. (shown_ready g w x, ready_shown g w x)
