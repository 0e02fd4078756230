use Rattle.std.proofs.lemmas.Result.{on_ok_weaker}
use Rattle.node_mailbox.specs.Post.{PostView}
use Rattle.overlay_harness.specs.declared.worker.Worker.{Worker}
use Rattle.overlay_harness.specs.Rounds.{WentOn}
use Rattle.overlay_harness.specs.Stages.{commands_to}
use Rattle.overlay_harness.proofs.Workers.{was_told, worked_then}
use Rattle.overlay_harness.proofs.worker.serve_stage.Goals as goal

pub serve_left-requires-clause-at_work : goal.serve_left-requires-clause-at_work
serve_left-requires-clause-at_work g c =
    let old : Worker = c.args.worker.now in
    let told : Worker = record old { cell = c.tell_own.new.cell; left = c.args.stage.now.budget } in
    (was_told c.args.hall.now.post.now old told c.args.stage.now.actions.now c.requires.at_work c.in_ok-tell_own.ensures).at_work

pub returns : goal.returns
returns g c =
    let post : PostView = c.args.hall.now.post.now in
    let old : Worker = c.args.worker.now in
    let told : Worker = record old { cell = c.tell_own.new.cell; left = c.args.stage.now.budget } in
    on_ok_weaker c.serve_left.result
    (λ (w : WentOn post told c.serve_left.new.worker).
    worked_then post (commands_to old.cell.node c.args.stage.now.actions.now) c.args.stage.now.budget old told c.serve_left.new.worker
    (was_told post old told c.args.stage.now.actions.now c.requires.at_work c.in_ok-tell_own.ensures) w)
    c.serve_left.ensures
