use Rattle.pastry.proofs.Played.{to_be_told}
use Rattle.pastry.proofs.pointing.prepare_pointed.Goals as goal

pub returns : goal.returns
returns c = to_be_told _ _ _ c.in_ok-pointed.pointed.hits _ c.in_ok-pointed.ensures c.in_ok-text.ensures
