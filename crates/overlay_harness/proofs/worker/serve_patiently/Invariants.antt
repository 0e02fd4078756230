use Rattle.overlay_harness.specs.Rounds.{WentOn}
use Rattle.overlay_harness.proofs.worker.serve_patiently.Given as goal

-- frames came so far
abbrev pub invariant-loop-look : goal.invariant-loop-look
invariant-loop-look g l = WentOn l.hall.post.now l.fn.worker l.worker
