use Rattle.std.proofs.Common.{◌≡◌, ◌++◌, drop}
use Rattle.wire_msg.specs.Words.{plain}
use Rattle.overlay_rules.specs.Outcome.{to_each}
use Rattle.node_parts.proofs.build.send_to_each.Given as goal

abbrev pub invariant-loop-id : goal.invariant-loop-id
invariant-loop-id l = l.messages ++ to_each (drop l.id-index l.ids) (plain l.message) ≡ l.initial.messages ++ to_each l.ids (plain l.message)
