use Rattle.node_core.proofs.joins.finishing.keeping_file.Goals as goal

pub returns : goal.returns
returns c = λ s. c.quiet.ensures s _ (c.in_ok-change.ensures s)
