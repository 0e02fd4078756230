use Rattle.std.proofs.Common.{◌≡◌, ◌∙◌, ◌++◌, ◌-◌, [], List, drop, length, map, take, sym, subst, ap, arith}
use Rattle.std.proofs.lemmas.Result.{IfOk-weaker}
use Rattle.node_mailbox.specs.Pass.{PassView}
use Rattle.node_mailbox.specs.Post.{AreOf, PostView}
use Rattle.node_mailbox.specs.declared.limits.TheConstants.{ALL_PARTS}
use Rattle.scenario_reader.specs.Plain.{PlainScenario}
use Rattle.overlay_harness.specs.declared.worker.Worker.{Worker}
use Rattle.overlay_harness.specs.Driven.{HaveRunSoFar, MayBeGathered, WereHandedOver, cells_of, ends_of, fresh_passes}
use Rattle.overlay_harness.specs.Served.{IsServedTo}
use Rattle.overlay_harness.specs.Shown.{shown}
use Rattle.overlay_harness.specs.Stages.{Stage}
use Rattle.overlay_harness.proofs.Ending.{put_back}
use Rattle.overlay_harness.proofs.Finishing.{may_be_gathered, served_to_end}
use Rattle.overlay_harness.proofs.Starting.{new_have_run}
use Rattle.overlay_harness.proofs.threaded.served_in.Goals as goal

pub run_stages-requires-clause-so_far : goal.run_stages-requires-clause-so_far
run_stages-requires-clause-so_far g c = λ κs lives.
    let s : PlainScenario = c.args.scenario.now in
    let post : PostView = c.args.hall.now.post.now in
    let of : AreOf (fresh_passes post ALL_PARTS) post = subst (λ (ps : List PassView). AreOf ps post) c.requires.fresh c.requires.of in
    subst (λ (ps : List PassView). HaveRunSoFar s post [] ps c.deref_mut.result.now) (sym c.in_ok-workers.ensures.own)
    (subst (HaveRunSoFar s post [] (fresh_passes post (ALL_PARTS - length s.nodes)))
    (sym (c.deref_mut.ensures.value ∙ c.in_ok-workers.ensures.workers)) (new_have_run s post c.requires.nodes of c.requires.few))

pub finish-requires : goal.finish-requires
finish-requires g c =
    let s : PlainScenario = c.args.scenario.now in
    let post : PostView = c.args.hall.now.post.now in
    let stages : List Stage = map shown (take c.args.count c.args.all.now) in
    let own : List PassView = c.run_stages.new.own in
    let olds : List Worker = c.in_ok-workers.workers.items in
    let news : List Worker = c.run_stages.new.workers in
    let back : take c.in_ok-workers.workers.len (news ++ drop (length news) olds) ≡ news =
    put_back olds news c.in_ok-workers.workers.len (c.run_stages.auto.workers ∙ ap length c.deref_mut.ensures.value) (omega arith) in
    subst (λ (ws : List Worker). MayBeGathered post own (cells_of ws)) (sym back)
    (may_be_gathered s post stages own news c.founder-founder.ensures.rules c.in_ok-run_stages.ensures)

pub returns : goal.returns
returns g c =
    let s : PlainScenario = c.args.scenario.now in
    let post : PostView = c.args.hall.now.post.now in
    let stages : List Stage = map shown (take c.args.count c.args.all.now) in
    let own : List PassView = c.run_stages.new.own in
    let olds : List Worker = c.in_ok-workers.workers.items in
    let news : List Worker = c.run_stages.new.workers in
    let back : take c.in_ok-workers.workers.len (news ++ drop (length news) olds) ≡ news =
    put_back olds news c.in_ok-workers.workers.len (c.run_stages.auto.workers ∙ ap length c.deref_mut.ensures.value) (omega arith) in
    let lent : List Worker = take c.in_ok-workers.workers.len (news ++ drop (length news) olds) in
    IfOk-weaker c.finish.result (λ cells. WereHandedOver (ends_of lent) (cells_of lent) cells.items) (λ cells. IsServedTo s stages cells.items)
    (λ cells h.
    served_to_end s post stages own news cells.items c.founder-founder.ensures.rules c.in_ok-run_stages.ensures c.requires.last
    (subst (λ (ws : List Worker). WereHandedOver (ends_of ws) (cells_of ws) cells.items) back h)) c.finish.ensures
