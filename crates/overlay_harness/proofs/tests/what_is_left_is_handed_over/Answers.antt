use Rattle.std.proofs.Common.{sym, subst}
use Rattle.weave.specs.Cells.{HaveOwnNodes}
use Rattle.overlay_harness.proofs.Made.{own_nodes}
use Rattle.overlay_harness.proofs.tests.what_is_left_is_handed_over.Goals as goal

pub hand_over_left-requires-clause-apart : goal.hand_over_left-requires-clause-apart
hand_over_left-requires-clause-apart g c =
    subst HaveOwnNodes (sym c.deref_mut.ensures.value)
    (own_nodes c.in_ok-late.late c.in_ok-cells.cells.items c.founder-founder.ensures.rules c.in_ok-cells.ensures.run.cells_are)
