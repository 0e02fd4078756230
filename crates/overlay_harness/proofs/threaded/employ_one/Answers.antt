use Rattle.std.proofs.Common.{All, sym, subst}
use Rattle.node_cell.specs.Equipped.{IsUnused}
use Rattle.overlay_harness.proofs.Starting.{unused_split}
use Rattle.overlay_harness.proofs.threaded.employ_one.Goals as goal

pub equipped-requires : goal.equipped-requires
equipped-requires g c = subst (All IsUnused) (sym c.in_ok-passes.ensures.new) (unused_split c.args.own.now)
