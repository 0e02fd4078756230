use Rattle.std.proofs.Common.{[]}
use Rattle.overlay_harness.proofs.Workers.{worked_then}
use Rattle.overlay_harness.proofs.worker.serve_patiently.Goals as goal

pub returns-then-branch-2-clause-went_on : goal.returns-then-branch-2-clause-went_on
returns-then-branch-2-clause-went_on g c =
    worked_then c.args.hall.now.post.now [] c.args.worker.now.left c.args.worker.now c.loop-look.worker c.serve_once-in-loop-look.new.worker
    c.loop-look.invariant c.in_ok-serve_once-2.ensures.went_on

pub loop-look-preserved : goal.loop-look-preserved
loop-look-preserved g c =
    worked_then c.args.hall.now.post.now [] c.args.worker.now.left c.args.worker.now c.loop-look.worker c.serve_once-in-loop-look.new.worker
    c.loop-look.invariant c.in_ok-serve_once-2.ensures.went_on
