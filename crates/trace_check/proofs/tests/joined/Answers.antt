use Rattle.std.proofs.Common.{Contains, refl, sym, subst, lit<}
use Rattle.world_model.specs.Recorded.{Recorded}
use Rattle.trace_check.proofs.tests.joined.Goals as goal

-- the joiner is one of the world's nodes
pub command-requires-clause-member : goal.command-requires-clause-member
command-requires-clause-member c =
    subst (λ (w : Recorded). Contains w.nodes 63802943797675961899382738893456539648) (sym c.in_ok-world.ensures) (1, lit< tt, refl)
