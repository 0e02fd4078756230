use Rattle.std.proofs.Common.{rules, subst}
use Rattle.overlay_harness.specs.declared.worker.Worker.{Worker}
use Rattle.overlay_harness.specs.Rounds.{ServedUnlessStopped}
use Rattle.overlay_harness.specs.Shown.{shown}
use Rattle.overlay_harness.proofs.Workers.{zip_from}
use Rattle.overlay_harness.proofs.rounds.first_round.Goals as goal

pub returns : goal.returns
returns g c =
    let served : Worker → Worker → Type 0 = ServedUnlessStopped c.args.hall.now.post.now (shown c.args.stage.now) in
    zip_from served c.args.workers.now c.for_each_mut.new.s c.for_each_mut.auto.s (λ i d lt.
    let change = (c.for_each_mut.ensures i d lt).1 in
    let P : Worker × Worker → Type 0 = λ y. served y.0 y.1 in
    subst P (λ k. (change.argument_is k, change.left k)) (search rules))
