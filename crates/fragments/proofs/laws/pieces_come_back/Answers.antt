use Rattle.fragments.proofs.Returning.{comes_back}
use Rattle.fragments.proofs.laws.pieces_come_back.Goals as goal

pub returns : goal.returns
returns c = comes_back
