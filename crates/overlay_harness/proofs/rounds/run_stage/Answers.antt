use Rattle.std.proofs.Common.{◌≡◌, None, List, All}
use Rattle.std.specs.List.{AllZip}
use Rattle.node_mailbox.specs.Post.{PostView}
use Rattle.overlay_rules.proofs.Each.{Each-all, Each-from_all}
use Rattle.overlay_harness.specs.declared.worker.Worker.{Worker}
use Rattle.overlay_harness.specs.Rounds.{IsAtWork, ServedIn, ServedUnlessStopped, WentOn}
use Rattle.overlay_harness.specs.Shown.{shown}
use Rattle.overlay_harness.specs.Stages.{Stage, commands_to}
use Rattle.overlay_harness.proofs.Workers.{worked_then, zip_second, zip_then, zip_with}
use Rattle.overlay_harness.proofs.rounds.run_stage.Goals as goal

abbrev IsFine : Worker → Type 0
IsFine w = w.fault ≡ None

served_then : (post : PostView) (s : Stage) (olds mids news : List Worker) → AllZip (ServedIn post s) olds mids → AllZip (WentOn post) mids news →
    AllZip (ServedIn post s) olds news
served_then post s olds mids news h k =
    zip_then (ServedIn post s) (WentOn post) (ServedIn post s)
    (λ a b d one next. worked_then post (commands_to a.cell.node s.actions) s.budget a b d one next) olds mids news h k

all_at_work : (post : PostView) (s : Stage) (olds news : List Worker) → AllZip (ServedIn post s) olds news → All (λ (w : Worker). IsAtWork post w.cell) news
all_at_work post s olds news z =
    Each-all (λ (w : Worker). IsAtWork post w.cell) news (zip_second (ServedIn post s) (λ (w : Worker). IsAtWork post w.cell) (λ a b r. r.at_work) olds news z)

pub loop-init : goal.loop-init
loop-init g c =
    let post : PostView = c.args.hall.now.post.now in
    let s : Stage = shown c.args.stage.now in
    zip_with (ServedUnlessStopped post s) (ServedIn post s) IsFine (λ a b r p. r p) c.args.workers.now c.first_round.new.workers c.first_round.ensures
    (Each-from_all IsFine c.first_round.new.workers c.in_ok-check.ensures)

pub go_round-requires-clause-at_work : goal.go_round-requires-clause-at_work
go_round-requires-clause-at_work g c = λ κs lives.
    all_at_work c.args.hall.now.post.now (shown c.args.stage.now) c.args.workers.now c.loop.workers c.loop.invariant

pub loop-preserved : goal.loop-preserved
loop-preserved g c =
    served_then c.args.hall.now.post.now (shown c.args.stage.now) c.args.workers.now c.loop.workers c.go_round.new.workers c.loop.invariant
    c.in_ok-go_round.ensures

pub returns-then-not-branch : goal.returns-then-not-branch
returns-then-not-branch g c =
    served_then c.args.hall.now.post.now (shown c.args.stage.now) c.args.workers.now c.loop.workers c.go_round.new.workers c.loop.invariant
    c.in_ok-go_round.ensures
