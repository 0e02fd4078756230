use Rattle.std.proofs.Common.{◌≡◌, ◌<◌, ℕ, length, sym, ap, subst, ◌∙◌, arith}
use Rattle.node_parts.specs.declared.node.Node.{Node}
use Rattle.node_parts.specs.Makes.{Makes}
use Rattle.world_model.specs.Cells.{id_at}
use Rattle.world_model.proofs.OneNode.{id-read, ids-set, stand-at, all-changed}
use Rattle.world_model.proofs.cells.commit_at.Goals as goal

pub returns-clause-ids : goal.returns-clause-ids
returns-clause-ids c =
    ids-set c.args.nodes.now.items c.args.place c.index_mut-node.result.now c.commit.new.self (omega (arith, c.args.nodes.now.ok.0))
    (c.commit.ensures.me ∙ ap (λ (n : Node). n.me) c.index_mut-node.ensures.value)

pub returns-clause-stand : goal.returns-clause-stand
returns-clause-stand c = λ states t a changes sound.
    let l : c.args.place < length c.args.nodes.now.items = omega (arith, c.args.nodes.now.ok.0) in
    let e : id_at c.args.nodes.now.items c.args.place ≡ c.index_mut-node.result.now.me =
    id-read c.args.nodes.now.items c.args.place c.index_mut-node.result.now l ∙ ap (λ (n : Node). n.me) (sym c.index_mut-node.ensures.value) in
    let st = stand-at c.args.nodes.now.items states c.args.place c.index_mut-node.result.now a l c.index_mut-node.ensures.value in
    all-changed c.args.nodes.now.items states c.args.place c.index_mut-node.result.now c.commit.new.self t c.requires.different a l
    c.index_mut-node.ensures.value c.commit.ensures.me
    (c.commit.ensures.stands (states c.index_mut-node.result.now.me) t st (subst (λ (m : ℕ). Makes c.args.change (states m) t) e changes) sound)
