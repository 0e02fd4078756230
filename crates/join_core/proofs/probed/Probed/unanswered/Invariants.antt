-- So many are listed as unanswered.
use Rattle.std.proofs.Common.{◌≡◌, map, take}
use Rattle.overlay_rules.specs.Joining.{unanswered}
use Rattle.join_core.proofs.probed.Probed.unanswered.Given as goal

abbrev pub invariant-loop-id : goal.invariant-loop-id
invariant-loop-id l = l.items.items ≡ map unanswered (take l.id-index l.ids)
