use Rattle.std.proofs.Common.{◌≡◌, None, All, take}
use Rattle.overlay_harness.specs.declared.worker.Worker.{Worker}
use Rattle.overlay_harness.proofs.rounds.check.Given as goal

-- nothing stopped the threads so far
abbrev pub invariant-loop-worker-2 : goal.invariant-loop-worker-2
invariant-loop-worker-2 l = All (λ (w : Worker). w.fault ≡ None) (take l.worker-index l.workers)
