use Rattle.std.proofs.Common.{◌≡◌, subst}
use Rattle.node_parts.specs.Change.{rest_after}
use Rattle.node_parts.proofs.node.Node.commit_rest.Goals as goal

pub returns-in-Parts-clause-keeps : goal.returns-in-Parts-clause-keeps
returns-in-Parts-clause-keeps c = λ s t keeps is.
    c.commit_parts.ensures.keeps s t keeps (subst (λ r. rest_after r s ≡ t) c.in-Parts.is is)
