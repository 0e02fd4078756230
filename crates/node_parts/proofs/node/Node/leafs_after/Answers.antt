use Rattle.std.proofs.Common.{◌∙◌, ap, sym, subst}
use Rattle.ring_math.specs.Sides.{learn_all}
use Rattle.leaf_set.specs.Leaves.{Leaves, StandsFor}
use Rattle.node_parts.proofs.node.Node.leafs_after.Goals as goal

pub returns-clause-stands : goal.returns-clause-stands
returns-clause-stands c = λ known h.
    subst (λ m. StandsFor c.learnt.result (learn_all m known c.args.ids.now))
    (ap (λ (x : Leaves). x.me) c.leafs.ensures ∙ c.args.self.now.same_me)
    (c.learnt.ensures.stands known (subst (λ (x : Leaves). StandsFor x known) (sym c.leafs.ensures) h.keeps.leafs))
