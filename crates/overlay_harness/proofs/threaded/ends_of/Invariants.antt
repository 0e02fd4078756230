use Rattle.std.proofs.Common.{◌≡◌, take}
use Rattle.overlay_harness.specs.Driven.{ends_of}
use Rattle.overlay_harness.proofs.threaded.ends_of.Given as goal

abbrev pub invariant-loop-worker : goal.invariant-loop-worker
invariant-loop-worker l = l.ends.items ≡ ends_of (take l.worker-index l.workers)
