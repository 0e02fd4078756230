use Rattle.pastry.proofs.Played.{HasPointed-from_told}
use Rattle.pastry.proofs.pointing.point_read.Goals as goal

pub returns-in-Ok-prepare_pointed-clause-done : goal.returns-in-Ok-prepare_pointed-clause-done
returns-in-Ok-prepare_pointed-clause-done g c = λ e.
    HasPointed-from_told _ _ _ _ c.in-Ok.scenario _ _ c.in-Ok-prepare_pointed.ensures c.in-Ok.ensures.ok c.write_prepared.ensures.played
    (c.write_prepared.ensures.whole e)

pub returns-in-Ok-prepare_pointed-clause-broken_off : goal.returns-in-Ok-prepare_pointed-clause-broken_off
returns-in-Ok-prepare_pointed-clause-broken_off g c = λ e.
    HasPointed-from_told _ _ _ _ c.in-Ok.scenario _ _ c.in-Ok-prepare_pointed.ensures c.in-Ok.ensures.ok c.write_prepared.ensures.played
    (c.write_prepared.ensures.part e)
