use Rattle.node_core.proofs.joins.finishing.on_announce.Goals as goal

pub returns : goal.returns
returns c = λ s. c.quiet.ensures s _ (c.learns.ensures s)
