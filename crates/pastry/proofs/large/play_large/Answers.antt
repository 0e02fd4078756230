use Rattle.pastry.proofs.Played.{HasTold-from_prepared}
use Rattle.pastry.proofs.large.play_large.Goals as goal

pub returns-in-Ok-prepare_large-clause-done : goal.returns-in-Ok-prepare_large-clause-done
returns-in-Ok-prepare_large-clause-done g c = λ e.
    HasTold-from_prepared _ _ _ _ _ c.in-Ok.scenario _ _ c.in-Ok-prepare_large.ensures c.in-Ok.ensures c.write_prepared.ensures.played
    (c.write_prepared.ensures.whole e)

pub returns-in-Ok-prepare_large-clause-broken_off : goal.returns-in-Ok-prepare_large-clause-broken_off
returns-in-Ok-prepare_large-clause-broken_off g c = λ e.
    HasTold-from_prepared _ _ _ _ _ c.in-Ok.scenario _ _ c.in-Ok-prepare_large.ensures c.in-Ok.ensures c.write_prepared.ensures.played
    (c.write_prepared.ensures.part e)
