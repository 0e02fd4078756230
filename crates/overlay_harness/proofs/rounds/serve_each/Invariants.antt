use Rattle.std.specs.List.{AllZip}
use Rattle.overlay_harness.specs.Rounds.{WentOn}
use Rattle.overlay_harness.proofs.rounds.serve_each.Given as goal

abbrev pub invariant-loop-place : goal.invariant-loop-place
invariant-loop-place g l = AllZip (WentOn l.post) l.fn.workers l.workers
