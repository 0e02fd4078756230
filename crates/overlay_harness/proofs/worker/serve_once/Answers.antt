use Rattle.std.proofs.Common.{◌-◌, arith}
use Rattle.overlay_harness.specs.declared.worker.Worker.{Worker}
use Rattle.overlay_harness.proofs.Workers.{went_one}
use Rattle.overlay_harness.proofs.worker.serve_once.Goals as goal

pub returns-clause-went_on : goal.returns-clause-went_on
returns-clause-went_on g c =
    let old : Worker = c.args.worker.now in
    let new : Worker = record { cell = c.serve.new.self; left = old.left - 1; turns = old.turns; fault = old.fault } in
    went_one c.args.post.now old new c.requires c.serve.ensures.goes_on c.serve.ensures.passes (c.in_ok-serve.ensures.served c.if-not-branch.false)
    (let some = c.if-worker-eq0.false in omega arith)
