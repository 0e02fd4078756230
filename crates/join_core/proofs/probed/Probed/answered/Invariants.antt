-- So many of those probed before are listed with the answer; then so many of the new ones.
use Rattle.std.proofs.Common.{◌≡◌, ◌++◌, map, take}
use Rattle.overlay_rules.specs.Joining.{unanswered, answered_by}
use Rattle.join_core.proofs.probed.Probed.answered.Given as goal

abbrev pub invariant-loop-probe : goal.invariant-loop-probe
invariant-loop-probe l = l.items.items ≡ map (answered_by l.sender) (take l.probe-index l.probes)

abbrev pub invariant-loop-id : goal.invariant-loop-id
invariant-loop-id l = l.items.items ≡ map (answered_by l.fn.sender) l.self ++ map unanswered (take l.id-index l.more)
