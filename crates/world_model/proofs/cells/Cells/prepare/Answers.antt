use Rattle.std.proofs.Common.{◌≡◌, List, length, ap, arith}
use Rattle.node_parts.specs.declared.node.Node.{Node}
use Rattle.world_model.proofs.OneNode.{ids-length}
use Rattle.world_model.proofs.cells.Cells.prepare.Goals as goal

pub prepare_at-requires : goal.prepare_at-requires
prepare_at-requires c =
    let same : length c.self.inside.nodes.items ≡ length c.args.self.now = ap (λ (ns : List Node). length ns) c.self.view_is in
    let long = ids-length c.args.self.now in
    omega (arith, c.self.inside.nodes.ok.0, c.requires)
