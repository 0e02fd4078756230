use Rattle.std.proofs.Common.{sym, subst}
use Rattle.node_parts.specs.declared.node.Node.{Node}
use Rattle.node_parts.specs.Seen.{Stands}
use Rattle.node_core.proofs.node.Node.commit.Goals as goal

pub returns-clause-stands : goal.returns-clause-stands
returns-clause-stands c = λ s t st e h. c.commit.ensures.stands s t (subst (λ (n : Node). Stands n s) (sym c.self.view_is) st) e h
