-- So many were found to be probed.
use Rattle.std.proofs.Common.{◌≡◌, true, take}
use Rattle.std.specs.List.{list_all}
use Rattle.overlay_rules.specs.Joining.{was_probed}
use Rattle.join_core.proofs.probed.Probed.contains_all.Given as goal

abbrev pub invariant-loop-place : goal.invariant-loop-place
invariant-loop-place l = list_all (was_probed l.self) (take l.place l.leafs) ≡ true
