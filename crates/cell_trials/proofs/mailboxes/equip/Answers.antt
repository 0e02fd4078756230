use Rattle.cell_trials.proofs.NewPasses.{split_unused}
use Rattle.cell_trials.proofs.mailboxes.equip.Goals as goal

pub equip-requires-clause-unused : goal.equip-requires-clause-unused
equip-requires-clause-unused g c = split_unused c.args.own.now c.in_ok-passes.passes c.in_ok-passes.ensures.new
