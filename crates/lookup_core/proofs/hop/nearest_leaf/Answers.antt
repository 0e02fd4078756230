use Rattle.std.proofs.Common.{◌≡◌, [], MatchOption, subst, arith}
use Rattle.std.specs.List.{Contains}
use Rattle.ring_math.specs.Members.{IsClosest}
use Rattle.leaf_set.specs.Leaves.{Leaves, in_order}
use Rattle.lookup_core.proofs.Nearest.{nearest_leaf_is}
use Rattle.lookup_core.proofs.hop.nearest_leaf.Goals as goal

pub returns : goal.returns
returns c = λ list st others.
    nearest_leaf_is c.args.known.now.leafs list c.args.key c.nearest.result st.leafs others (omega arith)
    (subst (λ (s : Leaves). MatchOption c.nearest.result (in_order s ≡ []) (λ y. IsClosest (Contains (in_order s)) c.args.key y)) c.leafs.ensures
    c.nearest.ensures)
