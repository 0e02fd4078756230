-- So many have the answer.
use Rattle.std.proofs.Common.{◌≡◌}
use Rattle.overlay_rules.specs.Joining.{answered_by}
use Rattle.join_core.proofs.Listed.{mapped}
use Rattle.join_core.proofs.probed.Probed.hear.Given as goal

abbrev pub invariant-loop-place : goal.invariant-loop-place
invariant-loop-place l = l.self-inside.items.items ≡ mapped (answered_by l.fn.sender) l.place l.fn.self
