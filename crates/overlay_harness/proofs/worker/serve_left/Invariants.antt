use Rattle.overlay_harness.specs.Rounds.{WentOn}
use Rattle.overlay_harness.proofs.worker.serve_left.Given as goal

-- frames came so far
abbrev pub invariant-loop-worker : goal.invariant-loop-worker
invariant-loop-worker g l = WentOn l.hall.post.now l.fn.worker l.worker

abbrev pub decreases-loop-worker : goal.decreases-loop-worker
decreases-loop-worker g l = l.worker.left
