use Rattle.std.proofs.Common.{subst}
use Rattle.leaf_set.specs.Leaves.{Leaves, in_order}
use Rattle.ring_math.specs.Nearer.{nearer_of}
use Rattle.ring_math.proofs.Found.{Found, found_says, says_found}
use Rattle.leaf_set.proofs.Found.{better_in, found_better_leaf}
use Rattle.leaf_set.proofs.LeafSet.best.Goals as goal

pub returns : goal.returns
returns c =
    rw c.nearer_of.ensures
    (found_says (better_in (in_order c.args.self.now) c.args.key c.args.least c.args.than) c.args.key _
    (subst (λ (s : Leaves). Found (better_in (in_order s) c.args.key c.args.least c.args.than) c.args.key
    (nearer_of c.best.result c.best-2.result c.args.key)) c.self.view_is
    (found_better_leaf c.self.inside.right c.self.inside.left c.args.key c.args.least c.args.than c.best.result c.best-2.result
    (says_found (better_in c.self.inside.right c.args.key c.args.least c.args.than) _ _ c.best.ensures)
    (says_found (better_in c.self.inside.left c.args.key c.args.least c.args.than) _ _ c.best-2.ensures))))
