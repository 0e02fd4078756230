use Rattle.std.proofs.Common.{[], refl}
use Rattle.node_mailbox.specs.Post.{PostView}
use Rattle.overlay_harness.specs.declared.worker.Worker.{Worker}
use Rattle.overlay_harness.specs.Rounds.{WentOn}
use Rattle.overlay_harness.proofs.Workers.{turned_then, went_nowhere, worked_then}
use Rattle.overlay_harness.proofs.worker.serve_left.Goals as goal

pub returns-then-not-branch : goal.returns-then-not-branch
returns-then-not-branch g c =
    let post : PostView = c.args.hall.now.post.now in
    let old : Worker = c.args.worker.now in
    let turned : Worker = record c.loop-worker.worker { turns = c.saturating_add-worker.result } in
    worked_then post [] old.left old turned c.serve_patiently.new.worker
    (turned_then post [] old.left c.saturating_add-worker.result old c.loop-worker.worker c.loop-worker.invariant) c.in_ok-serve_patiently.ensures.went_on

pub loop-worker-preserved : goal.loop-worker-preserved
loop-worker-preserved g c =
    let post : PostView = c.args.hall.now.post.now in
    let old : Worker = c.args.worker.now in
    let turned : Worker = record c.loop-worker.worker { turns = c.saturating_add-worker.result } in
    let served : Worker = c.serve_patiently.new.worker in
    let new : Worker = record served { cell = c.post_all-in-loop-worker.new.cell } in
    let so_far : WentOn post old served =
    worked_then post [] old.left old turned served
    (turned_then post [] old.left c.saturating_add-worker.result old c.loop-worker.worker c.loop-worker.invariant) c.in_ok-serve_patiently.ensures.went_on in
    worked_then post [] old.left old served new so_far
    (went_nowhere post served new so_far.at_work c.in_ok-post_all-2.ensures.goes_on c.in_ok-post_all-2.ensures.passes c.in_ok-post_all-2.ensures.history refl)
