use Rattle.std.proofs.Common.{ℕ, MatchOption, subst, arith}
use Rattle.ring_math.specs.Members.{IsClosest}
use Rattle.leaf_set.specs.Leaves.{Leaves, Improves as LeafImproves, in_order}
use Rattle.route_table.specs.Entries.{Table, Improves as EntryImproves}
use Rattle.lookup_core.proofs.Nearest.{best_known_is}
use Rattle.lookup_core.proofs.hop.best_known.Goals as goal

pub returns : goal.returns
returns c = λ list st others.
    rw c.nearer_of.ensures
    (best_known_is c.args.known.now list c.args.key c.shared-least.result c.me-me.result c.best-leaf.result c.best-entry.result st others (omega arith)
    c.me-me.ensures c.shared-least.ensures.value
    (subst (λ (s : Leaves). MatchOption c.best-leaf.result ((z : ℕ) → LeafImproves (in_order s) c.args.key c.shared-least.result c.me-me.result z → ⊥)
    (λ y. IsClosest (λ z. LeafImproves (in_order s) c.args.key c.shared-least.result c.me-me.result z) c.args.key y)) c.leafs.ensures c.best-leaf.ensures)
    (subst (λ (t : Table). MatchOption c.best-entry.result ((z : ℕ) → EntryImproves t.entries c.args.key c.shared-least.result c.me-me.result z → ⊥)
    (λ y. IsClosest (λ z. EntryImproves t.entries c.args.key c.shared-least.result c.me-me.result z) c.args.key y)) c.table.ensures c.best-entry.ensures))
