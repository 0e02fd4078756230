use Rattle.node_parts.proofs.Views.{reach-some}
use Rattle.node_parts.proofs.node.Node.reach.Goals as goal

pub returns-in-Some-clause-reach : goal.returns-in-Some-clause-reach
returns-in-Some-clause-reach c = λ s st. reach-some c.args.self.now s c.in-Some.links.0 c.in-Some.links.1 c.reach_with.result st c.in-Some.ensures
    (c.reach_with.ensures.reach s.known)
