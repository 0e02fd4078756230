use Rattle.std.proofs.Common.{◌≡◌, ◌∙◌, ◌+◌, ◌++◌, ◌∷◌, [], List, map, take, sym, subst, ap, arith}
use Rattle.std.proofs.lemmas.List.{map_more}
use Rattle.node_mailbox.specs.Pass.{PassView}
use Rattle.node_mailbox.specs.Post.{PostView}
use Rattle.scenario_reader.specs.Plain.{PlainScenario}
use Rattle.overlay_harness.specs.declared.stage.Stage.{Stage as CodeStage}
use Rattle.overlay_harness.specs.declared.worker.Worker.{Worker}
use Rattle.overlay_harness.specs.Driven.{HaveRunSoFar}
use Rattle.overlay_harness.specs.Shown.{shown}
use Rattle.overlay_harness.specs.Stages.{Stage}
use Rattle.overlay_harness.proofs.Driving.{all_at_work, all_may_be_told, have_run_more, stage_has_no_frame, stage_may_be_put}
use Rattle.overlay_harness.proofs.Ending.{IsStageAt, next_stages}
use Rattle.overlay_harness.proofs.threaded.run_stages.Goals as goal

pub loop-place-init : goal.loop-place-init
loop-place-init g c = c.requires.so_far

pub put_noise-requires-clause-of : goal.put_noise-requires-clause-of
put_noise-requires-clause-of g c = c.loop-place.invariant.driven.of

pub put_noise-requires-clause-noise : goal.put_noise-requires-clause-noise
put_noise-requires-clause-noise g c =
    let codes : List CodeStage = c.args.all.now in
    let code : CodeStage = c.index-all-place.result in
    stage_has_no_frame (map shown (take c.loop-place.place codes)) (shown code)
    (next_stages c.args.scenario.now codes c.loop-place.place code c.founder-founder.ensures.rules
    (record { stages = c.requires.stages; within = omega arith; there = c.index-all-place.is }))

pub run_stage-requires-clause-at_work : goal.run_stage-requires-clause-at_work
run_stage-requires-clause-at_work g c = λ κs lives.
    all_at_work c.args.hall.now.post.now (map shown (take c.loop-place.place c.args.all.now)) c.loop-place.workers c.loop-place.invariant.each

pub run_stage-requires-clause-numbers : goal.run_stage-requires-clause-numbers
run_stage-requires-clause-numbers g c = λ κs lives.
    let codes : List CodeStage = c.args.all.now in
    let code : CodeStage = c.index-all-place.result in
    all_may_be_told c.args.hall.now.post.now (map shown (take c.loop-place.place codes)) (shown code) c.loop-place.workers
    (next_stages c.args.scenario.now codes c.loop-place.place code c.founder-founder.ensures.rules
    (record { stages = c.requires.stages; within = omega arith; there = c.index-all-place.is })) c.loop-place.invariant.each

pub run_stage-requires-clause-copies : goal.run_stage-requires-clause-copies
run_stage-requires-clause-copies g c = λ κs lives.
    let may =
    stage_may_be_put c.args.scenario.now c.args.all.now c.loop-place.place c.index-all-place.result c.founder-founder.ensures.rules
    (record { stages = c.requires.stages; within = omega arith; there = c.index-all-place.is }) in
    (may.some, may.few)

pub loop-place-preserved : goal.loop-place-preserved
loop-place-preserved g c =
    let s : PlainScenario = c.args.scenario.now in
    let post : PostView = c.args.hall.now.post.now in
    let codes : List CodeStage = c.args.all.now in
    let i = c.loop-place.place in
    let code : CodeStage = c.index-all-place.result in
    let so_far : List Stage = map shown (take i codes) in
    let own : List PassView = c.put_noise.new.own in
    let news : List Worker = c.run_stage.new.workers in
    let at : IsStageAt s codes i code = record { stages = c.requires.stages; within = omega arith; there = c.index-all-place.is } in
    let more : map shown (take (i + 1) codes) ≡ so_far ++ shown code ∷ [] =
    map_more shown codes i code at.within ∙ ap (λ (d : CodeStage). so_far ++ shown d ∷ []) (sym c.index-all-place.is) in
    subst (λ (ss : List Stage). HaveRunSoFar s post ss own news) (sym more)
    (have_run_more s post so_far (shown code) c.loop-place.own own c.loop-place.workers news
    (next_stages s codes i code c.founder-founder.ensures.rules at) c.put_noise.ensures.of c.put_noise.ensures.noise c.loop-place.invariant
    c.in_ok-run_stage.ensures)

pub returns : goal.returns
returns g c =
    subst (λ n. HaveRunSoFar c.args.scenario.now c.args.hall.now.post.now (map shown (take n c.args.all.now)) c.loop-place.own c.loop-place.workers)
    (let e : c.loop-place.place ≡ c.args.count = omega arith in e) c.loop-place.invariant
