use Rattle.std.proofs.Common.{◌≡◌, ◌<◌, ℕ, length, refl, sym, ap, subst, ◌∙◌, arith, IfOk}
use Rattle.overlay_rules.specs.Step.{step}
use Rattle.node_parts.specs.declared.node.Node.{Node}
use Rattle.node_parts.specs.Plans.{Prepares}
use Rattle.node_parts.specs.Seen.{Stands}
use Rattle.node_parts.specs.Sound.{IsSound}
use Rattle.node_core.specs.Inputs.{plain_input}
use Rattle.world_model.specs.Cells.{id_at}
use Rattle.world_model.proofs.OneNode.{id-read, ids-set, stand-at, all-set}
use Rattle.world_model.proofs.cells.prepare_at.Goals as goal

pub returns-clause-ids : goal.returns-clause-ids
returns-clause-ids c =
    ids-set c.args.nodes.now.items c.args.place c.index_mut-node.result.now c.prepare.new.self (omega (arith, c.args.nodes.now.ok.0))
    (c.prepare.ensures.me ∙ ap (λ (n : Node). n.me) c.index_mut-node.ensures.value)

pub returns-clause-stand : goal.returns-clause-stand
returns-clause-stand c = λ states a.
    let l : c.args.place < length c.args.nodes.now.items = omega (arith, c.args.nodes.now.ok.0) in
    let st = stand-at c.args.nodes.now.items states c.args.place c.index_mut-node.result.now a l c.index_mut-node.ensures.value in
    all-set c.args.nodes.now.items states states c.args.place c.prepare.new.self a l
    (subst (λ (m : ℕ). Stands c.prepare.new.self (states m)) (sym c.prepare.ensures.me) (c.prepare.ensures.stands _ st)) (λ k d h ne. refl)

pub returns-clause-plans : goal.returns-clause-plans
returns-clause-plans c = λ states a.
    let l : c.args.place < length c.args.nodes.now.items = omega (arith, c.args.nodes.now.ok.0) in
    let e : id_at c.args.nodes.now.items c.args.place ≡ c.index_mut-node.result.now.me =
    id-read c.args.nodes.now.items c.args.place c.index_mut-node.result.now l ∙ ap (λ (n : Node). n.me) (sym c.index_mut-node.ensures.value) in
    let st = stand-at c.args.nodes.now.items states c.args.place c.index_mut-node.result.now a l c.index_mut-node.ensures.value in
    subst (λ (m : ℕ). IfOk c.prepare.result (λ p. Prepares (states m) p (step (states m) (plain_input c.args.input.now)))) (sym e)
    (c.prepare.ensures.plans _ st)

pub returns-clause-sound : goal.returns-clause-sound
returns-clause-sound c = λ states a.
    let l : c.args.place < length c.args.nodes.now.items = omega (arith, c.args.nodes.now.ok.0) in
    let e : id_at c.args.nodes.now.items c.args.place ≡ c.index_mut-node.result.now.me =
    id-read c.args.nodes.now.items c.args.place c.index_mut-node.result.now l ∙ ap (λ (n : Node). n.me) (sym c.index_mut-node.ensures.value) in
    let st = stand-at c.args.nodes.now.items states c.args.place c.index_mut-node.result.now a l c.index_mut-node.ensures.value in
    subst (λ (m : ℕ). IsSound (step (states m) (plain_input c.args.input.now)).state) (sym e) (c.prepare.ensures.sound _ st)
