use Rattle.std.proofs.Common.{map, take}
use Rattle.overlay_harness.specs.Driven.{HaveRunSoFar}
use Rattle.overlay_harness.specs.Shown.{shown}
use Rattle.overlay_harness.proofs.threaded.run_stages.Given as goal

-- the stages so far were run
abbrev pub invariant-loop-place : goal.invariant-loop-place
invariant-loop-place g l = HaveRunSoFar l.scenario l.hall.post.now (map shown (take l.place l.all)) l.own l.workers
