use Rattle.std.proofs.Common.{◌≡◌, ◌<◌, ℕ, List, length, sym, ap, ◌∙◌, arith, get_or}
use Rattle.node_parts.specs.declared.node.Node.{Node}
use Rattle.ring_math.specs.Files.{slot_of}
use Rattle.file_store.specs.Answers.{bytes_in}
use Rattle.world_model.specs.Cells.{id_at}
use Rattle.world_model.proofs.OneNode.{ids-length, id-read, stand-at}
use Rattle.world_model.proofs.cells.Cells.holds.Goals as goal

pub index-node-requires : goal.index-node-requires
index-node-requires c =
    let same : length c.self.inside.nodes.items ≡ length c.args.self.now = ap (λ (ns : List Node). length ns) c.self.view_is in
    let long = ids-length c.args.self.now in
    omega (arith, c.self.inside.nodes.ok.0, c.requires)

pub returns : goal.returns
returns c = λ states a.
    let long = ids-length c.args.self.now in
    let l : c.args.place < length c.args.self.now = omega (arith, c.requires) in
    let is : c.index-node.result.now ≡ get_or c.args.self.now c.args.place c.index-node.result.now =
    c.index-node.ensures ∙ ap (λ (ns : List Node). get_or ns c.args.place c.index-node.result.now) c.self.view_is in
    let me : c.index-node.result.now.me ≡ id_at c.args.self.now c.args.place =
    ap (λ (n : Node). n.me) is ∙ sym (id-read c.args.self.now c.args.place c.index-node.result.now l) in
    c.holds.ensures (states c.index-node.result.now.me) (stand-at c.args.self.now states c.args.place c.index-node.result.now a l is)
    ∙ ap (λ (x : ℕ). bytes_in (slot_of (states x).files c.args.file.now)) me
