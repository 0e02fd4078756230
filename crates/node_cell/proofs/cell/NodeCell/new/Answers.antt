use Rattle.std.proofs.Common.{ℕ, sym, subst}
use Rattle.overlay_rules.specs.State.{start}
use Rattle.node_parts.specs.Seen.{Stands}
use Rattle.node_cell.proofs.Growing.{cell_begins}
use Rattle.node_cell.proofs.cell.NodeCell.new.Goals as goal

pub invariant_of-result : goal.invariant_of-result
invariant_of-result c =
    let stands : Stands c.in_ok-node.node (start c.in_ok-node.node.me c.args.founder) =
    subst (λ (x : ℕ). Stands c.in_ok-node.node (start x c.args.founder)) (sym c.in_ok-node.ensures.me) c.in_ok-node.ensures.stands in
    rw (c.new.ensures.items, c.new-2.ensures.items) (cell_begins c.in_ok-node.node c.in_ok-node.node.me c.args.founder stands)
