use Rattle.std.proofs.Common.{◌≡◌, ◌∙◌, ◌<◌, ◌+◌, ℕ, Bool, List, length, get_or, sym, ap, arith}
use Rattle.std.specs.List.{count_by}
use Rattle.std.proofs.lemmas.List.{take_all}
use Rattle.std.proofs.lemmas.List.Sums.{count_by_more_yes, count_by_more_no}
use Rattle.overlay_rules.specs.State.{State, is_ready}
use Rattle.node_parts.specs.declared.node.Node.{Node}
use Rattle.node_parts.specs.Seen.{Stands}
use Rattle.world_model.specs.Cells.{AllStand, ids_of}
use Rattle.world_model.proofs.Finding.{index-or}
use Rattle.world_model.proofs.OneNode.{ids-length, id-read, stand-at}
use Rattle.world_model.proofs.cells.ready_among.Goals as goal
use Rattle.world_model.proofs.cells.ready_among.Goals.{then-is_ready, else-is_ready}

-- the node at hand is ready exactly where its state is
tells : (nodes : List Node) (place : ℕ) (node : Node) (b : Bool) (states : ℕ → State) → place < length nodes → node ≡ get_or nodes place node →
    ((s : State) → Stands node s → b ≡ is_ready s.phase) → AllStand nodes states → is_ready (states (get_or (ids_of nodes) place 0)).phase ≡ b
tells nodes place node b states l is ensures a =
    let long = ids-length nodes in
    let me : get_or (ids_of nodes) place 0 ≡ node.me =
    index-or (ids_of nodes) place 0 (omega arith) ∙ id-read nodes place node l ∙ ap (λ (n : Node). n.me) (sym is) in
    ap (λ x. is_ready (states x).phase) me ∙ sym (ensures (states node.me) (stand-at nodes states place node a l is))

pub loop-place-preserved : goal.loop-place-preserved
loop-place-preserved c = elim c.if-is_ready.branch [
  | then-is_ready w ↦ record {
    below = let e = w.ready-is in let b = c.loop-place.invariant.below in omega arith;
    counted = λ states a.
        let long = ids-length c.args.nodes.now in
        w.ready-is ∙ ap (λ n. n + 1) (c.loop-place.invariant.counted states a)
        ∙ sym (count_by_more_yes (λ x. is_ready (states x).phase) (ids_of c.args.nodes.now) c.loop-place.place 0 (omega arith)
        (tells c.args.nodes.now c.loop-place.place c.index-nodes-place.result c.is_ready.result states c.loop-place-test.true c.index-nodes-place.is
        c.is_ready.ensures a ∙ w.if-is_ready.true));
  }
  | else-is_ready w ↦ record {
    below = let e = w.ready-is in let b = c.loop-place.invariant.below in omega arith;
    counted = λ states a.
        let long = ids-length c.args.nodes.now in
        w.ready-is ∙ c.loop-place.invariant.counted states a
        ∙ sym (count_by_more_no (λ x. is_ready (states x).phase) (ids_of c.args.nodes.now) c.loop-place.place 0 (omega arith)
        (tells c.args.nodes.now c.loop-place.place c.index-nodes-place.result c.is_ready.result states c.loop-place-test.true c.index-nodes-place.is
        c.is_ready.ensures a ∙ w.if-is_ready.false));
  }
]

pub returns : goal.returns
returns c = λ states a.
    let long = ids-length c.args.nodes.now in
    c.loop-place.invariant.counted states a
    ∙ ap (count_by (λ x. is_ready (states x).phase)) (take_all c.loop-place.place (ids_of c.args.nodes.now) (omega arith))
