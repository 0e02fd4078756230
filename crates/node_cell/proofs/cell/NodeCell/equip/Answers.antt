use Rattle.std.proofs.Common.{◌∙◌, Some, ap}
use Rattle.node_cell.specs.Cell.{Cell, cell_seen}
use Rattle.node_cell.specs.Carried.{just_given}
use Rattle.node_cell.proofs.Growing.{cell_carries}
use Rattle.node_cell.proofs.Owning.{keeps-unused}
use Rattle.node_cell.proofs.cell.NodeCell.equip.Goals as goal

pub invariant_of-self : goal.invariant_of-self
invariant_of-self c =
    let cell : Cell =
    cell_seen c.self.inside.node c.self.inside.is_founder c.self.inside.history.items c.self.inside.unsent.items c.self.inside.carried in
    cell_carries c.self.inside.node c.self.inside.stamp cell (Some (just_given c.args.passes)) c.self.invariant
    (keeps-unused cell.node cell.history c.args.passes (ap (λ (q : Cell). q.history) c.self.view_is ∙ c.requires.new) c.requires.unused)
