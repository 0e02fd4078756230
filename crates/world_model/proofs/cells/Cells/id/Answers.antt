use Rattle.std.proofs.Common.{◌≡◌, ◌<◌, List, length, sym, ap, ◌∙◌, arith, get_or}
use Rattle.node_parts.specs.declared.node.Node.{Node}
use Rattle.world_model.proofs.OneNode.{ids-length, id-read}
use Rattle.world_model.proofs.cells.Cells.id.Goals as goal

pub index-node-requires : goal.index-node-requires
index-node-requires c =
    let same : length c.self.inside.nodes.items ≡ length c.args.self.now = ap (λ (ns : List Node). length ns) c.self.view_is in
    let long = ids-length c.args.self.now in
    omega (arith, c.self.inside.nodes.ok.0, c.requires)

pub returns : goal.returns
returns c =
    let long = ids-length c.args.self.now in
    let l : c.args.place < length c.args.self.now = omega (arith, c.requires) in
    let is : c.index-node.result.now ≡ get_or c.args.self.now c.args.place c.index-node.result.now =
    c.index-node.ensures ∙ ap (λ (ns : List Node). get_or ns c.args.place c.index-node.result.now) c.self.view_is in
    c.id.ensures ∙ ap (λ (n : Node). n.me) is ∙ sym (id-read c.args.self.now c.args.place c.index-node.result.now l)
