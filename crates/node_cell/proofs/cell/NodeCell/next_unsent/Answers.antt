use Rattle.node_cell.specs.Cell.{Cell, cell_seen}
use Rattle.node_cell.proofs.Growing.{cell_hands_out}
use Rattle.node_cell.proofs.cell.NodeCell.next_unsent.Goals as goal

pub invariant_of-self-2 : goal.invariant_of-self-2
invariant_of-self-2 c =
    let cell : Cell =
    cell_seen c.self.inside.node c.self.inside.is_founder c.self.inside.history.items c.self.inside.unsent.items c.self.inside.carried in
    cell_hands_out c.self.inside.node c.self.inside.stamp cell c.in_ok-receiver.field-0 c.pop_front.new.self.items c.self.invariant
    c.in_ok-receiver.ensures.items
