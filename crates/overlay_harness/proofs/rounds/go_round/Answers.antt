use Rattle.std.proofs.Common.{◌≡◌, None, List, []}
use Rattle.node_mailbox.specs.Post.{PostView}
use Rattle.overlay_rules.proofs.Each.{Each-all, Each-from_all}
use Rattle.overlay_harness.specs.declared.worker.Worker.{Worker}
use Rattle.overlay_harness.specs.Rounds.{IsAtWork, WentOn, WentOnUnlessStopped}
use Rattle.overlay_harness.proofs.Workers.{worked_then, zip_second, zip_then, zip_with}
use Rattle.overlay_harness.proofs.rounds.go_round.Goals as goal

abbrev IsFine : Worker → Type 0
IsFine w = w.fault ≡ None

pub next_round-requires-clause-at_work : goal.next_round-requires-clause-at_work
next_round-requires-clause-at_work g c = λ κs lives.
    let post : PostView = c.args.hall.now.post.now in
    Each-all (λ (w : Worker). IsAtWork post w.cell) c.serve_each.new.workers
    (zip_second (WentOn post) (λ (w : Worker). IsAtWork post w.cell) (λ a b r. r.at_work) c.args.workers.now c.serve_each.new.workers
    c.in_ok-serve_each.ensures)

pub returns : goal.returns
returns g c =
    let post : PostView = c.args.hall.now.post.now in
    let news : List Worker = c.next_round.new.workers in
    zip_then (WentOn post) (WentOn post) (WentOn post) (λ a b d one next. worked_then post [] a.left a b d one next) c.args.workers.now c.serve_each.new.workers
    news c.in_ok-serve_each.ensures
    (zip_with (WentOnUnlessStopped post) (WentOn post) IsFine (λ a b r p. r p) c.serve_each.new.workers news c.next_round.ensures
    (Each-from_all IsFine news c.in_ok-check.ensures))
