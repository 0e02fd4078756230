use Rattle.std.proofs.Common.{Option, Some, None, List, ℕ, subst, sym}
use Rattle.node_cell.specs.declared.carried.Carried.{Carried}
use Rattle.node_cell.specs.Cell.{Cell, cell_seen}
use Rattle.node_cell.specs.Carried.{KeepsPasses}
use Rattle.node_cell.specs.Taken.{TookBytes}
use Rattle.node_cell.proofs.Growing.{cell_carries}
use Rattle.node_cell.proofs.Serves.{took-keeps}
use Rattle.node_cell.proofs.cell.NodeCell.serve_frame.Goals as goal

pub invariant_of-self : goal.invariant_of-self
invariant_of-self c =
    let before : Cell = c.args.self.now in
    let after : Cell =
    cell_seen c.self.inside.node c.self.inside.is_founder c.self.inside.history.items c.self.inside.unsent.items c.self.inside.carried in
    let carried : Carried = c.args.carried in
    let took : TookBytes (record before { carried = None }) c.args.frame c.handle.new.self =
    subst (λ (o : Option Carried). TookBytes (record before { carried = o }) c.args.frame c.handle.new.self) c.requires.without
    (subst (λ (bytes : List ℕ). TookBytes before bytes c.handle.new.self) c.as_slice.ensures c.in-Ok.ensures.ok) in
    cell_carries c.self.inside.node c.self.inside.stamp after (Some carried) c.self.invariant
    (subst (λ (q : Cell). KeepsPasses q.node q.history carried) (sym c.self.view_is)
    (took-keeps before c.handle.new.self carried c.args.frame took c.requires.no_hand c.requires.keeps))
