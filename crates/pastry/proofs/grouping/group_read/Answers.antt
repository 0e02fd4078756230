use Rattle.pastry.proofs.Played.{HasTold-from_prepared}
use Rattle.pastry.proofs.grouping.group_read.Goals as goal

pub returns-in-Ok-prepare_script-clause-done : goal.returns-in-Ok-prepare_script-clause-done
returns-in-Ok-prepare_script-clause-done g c = λ e.
    HasTold-from_prepared _ _ _ _ _ _ _ _ c.in-Ok-prepare_script.ensures c.in-Ok.ensures.ok c.write_prepared.ensures.played
    (c.write_prepared.ensures.whole e)

pub returns-in-Ok-prepare_script-clause-broken_off : goal.returns-in-Ok-prepare_script-clause-broken_off
returns-in-Ok-prepare_script-clause-broken_off g c = λ e.
    HasTold-from_prepared _ _ _ _ _ _ _ _ c.in-Ok-prepare_script.ensures c.in-Ok.ensures.ok c.write_prepared.ensures.played
    (c.write_prepared.ensures.part e)
