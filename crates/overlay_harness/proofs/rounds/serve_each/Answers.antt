use Rattle.std.proofs.Common.{[], List, refl, arith}
use Rattle.node_mailbox.specs.Post.{PostView}
use Rattle.overlay_rules.proofs.Each.{Each, Each-all, Each-from_all, Each-weaker}
use Rattle.node_cell.proofs.Serves.{goes_on_refl}
use Rattle.overlay_harness.specs.declared.worker.Worker.{Worker}
use Rattle.overlay_harness.specs.Rounds.{IsAtWork, WentOn}
use Rattle.overlay_harness.proofs.Workers.{went_nowhere, worked_then, zip_refl, zip_second, zip_set}
use Rattle.overlay_harness.proofs.rounds.serve_each.Goals as goal

pub loop-place-init : goal.loop-place-init
loop-place-init g c =
    let post : PostView = c.args.post.now in
    let workers : List Worker = c.args.workers.now in
    zip_refl (WentOn post) workers
    (Each-weaker (λ (w : Worker). IsAtWork post w.cell) (λ (w : Worker). WentOn post w w) workers
    (λ w a. went_nowhere post w w a (goes_on_refl w.cell) a.passes refl refl)
    (Each-from_all (λ (w : Worker). IsAtWork post w.cell) workers c.requires))

pub serve_once-requires : goal.serve_once-requires
serve_once-requires g c =
    let post : PostView = c.args.post.now in
    let workers : List Worker = c.loop-place.workers in
    let now : Each (λ (w : Worker). IsAtWork post w.cell) workers =
    zip_second (WentOn post) (λ (w : Worker). IsAtWork post w.cell) (λ a b r. r.at_work) c.args.workers.now workers c.loop-place.invariant in
    (Each-all (λ (w : Worker). IsAtWork post w.cell) workers now) c.loop-place.place c.index-workers-place.result (omega arith)

pub loop-place-preserved : goal.loop-place-preserved
loop-place-preserved g c =
    let post : PostView = c.args.post.now in
    zip_set (WentOn post) (WentOn post) (λ a b d one next. worked_then post [] a.left a b d one next) c.args.workers.now c.loop-place.workers c.loop-place.place
    c.index-workers-place.result c.serve_once.new.worker c.loop-place.invariant c.in_ok-serve_once.ensures.went_on
