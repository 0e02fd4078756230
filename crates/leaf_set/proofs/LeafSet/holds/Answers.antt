use Rattle.std.proofs.Common.{◌≡◌, true, sym, ◌∙◌, subst}
use Rattle.std.proofs.lemmas.Bool.{or_left, or_right}
use Rattle.ring_math.specs.Sides.{is_in}
use Rattle.leaf_set.specs.Leaves.{Leaves, holds}
use Rattle.leaf_set.proofs.Learning.{learnt-held}
use Rattle.leaf_set.proofs.LeafSet.holds.Goals as goal

pub returns-then-holds-clause-learnt : goal.returns-then-holds-clause-learnt
returns-then-holds-clause-learnt c = λ _ known st.
    learnt-held c.args.self.now known c.args.id st
    (subst (λ (s : Leaves). holds s c.args.id ≡ true) c.self.view_is
    (or_left (is_in c.self.inside.right c.args.id) (is_in c.self.inside.left c.args.id) (sym c.holds.ensures ∙ c.if-holds.true)))

pub returns-else-holds-clause-learnt : goal.returns-else-holds-clause-learnt
returns-else-holds-clause-learnt c = λ yes known st.
    learnt-held c.args.self.now known c.args.id st
    (subst (λ (s : Leaves). holds s c.args.id ≡ true) c.self.view_is
    (or_right (is_in c.self.inside.right c.args.id) (is_in c.self.inside.left c.args.id) (sym c.holds-else-holds.ensures ∙ yes)))
