-- Of so many leaves those that were not probed are found.
use Rattle.std.proofs.Common.{◌≡◌, take}
use Rattle.join_core.specs.Probes.{new_of}
use Rattle.join_core.proofs.probed.Probed.not_probed.Given as goal

abbrev pub invariant-loop-place : goal.invariant-loop-place
invariant-loop-place l = l.more ≡ new_of l.self (take l.place l.leafs)
