use Rattle.pastry.proofs.Played.{is_given}
use Rattle.pastry.proofs.large.prepare_large.Goals as goal

pub returns : goal.returns
returns g c =
    is_given c.args.seed c.args.size c.args.scenario.now c.in_ok-prepared.prepared.record c.in_ok-prepared.prepared.text c.in_ok-prepared.ensures
    c.given_law.ensures
