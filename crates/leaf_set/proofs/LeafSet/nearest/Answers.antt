use Rattle.std.proofs.Common.{subst}
use Rattle.std.specs.List.{Contains}
use Rattle.leaf_set.specs.Leaves.{Leaves, in_order}
use Rattle.ring_math.specs.Nearer.{nearer_of}
use Rattle.ring_math.proofs.Found.{Found, found_listed, listed_found}
use Rattle.leaf_set.proofs.Found.{found_leaf}
use Rattle.leaf_set.proofs.LeafSet.nearest.Goals as goal

pub returns : goal.returns
returns c =
    rw c.nearer_of.ensures
    (found_listed (in_order c.args.self.now) c.args.key _
    (subst (λ (s : Leaves). Found (Contains (in_order s)) c.args.key (nearer_of c.nearest-on_right.result c.nearest-on_left.result c.args.key)) c.self.view_is
    (found_leaf c.self.inside.right c.self.inside.left c.args.key c.nearest-on_right.result c.nearest-on_left.result
    (listed_found _ _ _ c.nearest-on_right.ensures) (listed_found _ _ _ c.nearest-on_left.ensures))))
