use Rattle.pastry.proofs.Judging.{has_judged}
use Rattle.pastry.proofs.checking.check_read.Goals as goal

pub returns-in-Ok-judge-clause-broken_off : goal.returns-in-Ok-judge-clause-broken_off
returns-in-Ok-judge-clause-broken_off g c = λ e.
    has_judged _ _ _ _ _ _ c.in-Ok-judge.judged.verdict c.in-Ok-judge.judged.steps _ c.in-Ok.ensures.ok c.in-Ok-judge.ensures
    c.write_judged.ensures.played (c.write_judged.ensures.part e)
