use Rattle.std.proofs.Common.{◌≡◌, ◌≤◌, ◌+◌, ◌-◌, ◌∙◌, ◌++◌, ◌∷◌, ◌==◌, [], List, All, length, map, take, sym, subst, ap, arith}
use Rattle.std.proofs.lemmas.List.{map_more, take_all}
use Rattle.node_mailbox.specs.Pass.{PassView, after_split, split_off}
use Rattle.node_mailbox.specs.Post.{PostView}
use Rattle.node_mailbox.specs.declared.limits.TheConstants.{ALL_PARTS}
use Rattle.ring_math.specs.Names.{Id}
use Rattle.scenario_reader.specs.declared.node.NodeLine.{NodeLine}
use Rattle.overlay_harness.specs.declared.worker.Worker.{Worker}
use Rattle.overlay_harness.specs.Driven.{fresh_passes, new_worker, new_workers}
use Rattle.overlay_harness.proofs.Starting.{fresh-given, fresh-split, fresh_have_two}
use Rattle.overlay_harness.proofs.threaded.employ.Goals as goal

pub employ_one-requires-clause-two : goal.employ_one-requires-clause-two
employ_one-requires-clause-two g c =
    subst (All (λ (p : PassView). 2 ≤ p.parts)) (sym c.loop-node.invariant.own)
    (fresh_have_two c.args.post.now (ALL_PARTS - c.loop-node.node-index)
    (let long = ap length c.nodes-nodes.ensures.value in let few = c.requires.few in omega arith))

pub loop-node-preserved : goal.loop-node-preserved
loop-node-preserved g c =
    let post : PostView = c.args.post.now in
    let i = c.loop-node.node-index in
    let nodes : List NodeLine = c.nodes-nodes.result.now in
    let founder : Id = c.args.scenario.now.founder in
    let one : NodeLine = c.node-item.result in
    let F : NodeLine → Worker = λ n. new_worker (fresh_passes post 1) n.id (n.id == founder) in
    let so_far : List Worker = new_workers post founder (take i nodes) in
    let made : c.in_ok-worker.worker ≡ F one =
    c.in_ok-worker.ensures.worker
    ∙ ap (λ (ps : List PassView). new_worker ps one.id c.eq.result)
    (ap (map split_off) c.loop-node.invariant.own ∙ fresh-given post (ALL_PARTS - i))
    ∙ ap (new_worker (fresh_passes post 1) one.id) (c.eq.ensures ∙ ap (λ (x : Id). one.id == x) c.founder-founder.ensures.value) in
    let next : new_workers post founder (take (i + 1) nodes) ≡ so_far ++ F one ∷ [] =
    map_more F nodes i one c.loop-node-test.true ∙ ap (λ (n : NodeLine). so_far ++ F n ∷ []) (sym c.node-item.is) in
    let less : ALL_PARTS - i - 1 ≡ ALL_PARTS - (i + 1) = omega arith in
    record {
      of = c.employ_one.ensures.of;
      own = c.in_ok-worker.ensures.own ∙ ap (map after_split) c.loop-node.invariant.own ∙ fresh-split post (ALL_PARTS - i) ∙ ap (fresh_passes post) less;
      workers = c.in_ok-push.ensures.items
          ∙ ap (λ (ws : List Worker). ws ++ c.in_ok-worker.worker ∷ []) c.loop-node.invariant.workers
          ∙ ap (λ (w : Worker). so_far ++ w ∷ []) made
          ∙ sym next;
    }

pub returns-clause-own : goal.returns-clause-own
returns-clause-own g c =
    c.loop-node.invariant.own
    ∙ ap (fresh_passes c.args.post.now) (let long = ap length c.nodes-nodes.ensures.value in omega arith)

pub returns-clause-workers : goal.returns-clause-workers
returns-clause-workers g c =
    c.loop-node.invariant.workers
    ∙ ap (new_workers c.args.post.now c.args.scenario.now.founder)
    (take_all c.loop-node.node-index c.nodes-nodes.result.now (omega arith) ∙ c.nodes-nodes.ensures.value)
