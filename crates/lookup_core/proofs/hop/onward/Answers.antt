use Rattle.std.proofs.Common.{◌≡◌, true, false, ◌∙◌, sym, subst}
use Rattle.leaf_set.specs.Leaves.{Leaves}
use Rattle.leaf_set.specs.Range.{is_in_range}
use Rattle.lookup_core.proofs.Hops.{onward_leaf, onward_prefix}
use Rattle.lookup_core.proofs.hop.onward.Goals as goal

pub returns-then-in_range : goal.returns-then-in_range
returns-then-in_range c = λ list st others.
    c.to_leaf.ensures list st others
    ∙ onward_leaf c.args.known.now.leafs list c.args.key st.leafs
    (subst (λ (s : Leaves). is_in_range s c.args.key ≡ true) c.leafs.ensures (sym c.in_range.ensures ∙ c.if-in_range.true))

pub returns : goal.returns
returns c = λ list st others.
    c.by_prefix.ensures list st others
    ∙ onward_prefix c.args.known.now.leafs list c.args.key st.leafs
    (subst (λ (s : Leaves). is_in_range s c.args.key ≡ false) c.leafs.ensures (sym c.in_range.ensures ∙ c.if-in_range.false))
