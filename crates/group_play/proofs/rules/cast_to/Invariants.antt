use Rattle.std.proofs.Common.{◌≡◌, ◌++◌, map, take}
use Rattle.scribe_core.specs.declared.message.GroupMessage.TheVariants as message
use Rattle.scribe_core.specs.Parts.{to_each}
use Rattle.scribe_core.specs.Record.{sent_from}
use Rattle.group_play.proofs.rules.cast_to.Given as goal

-- it was sent to the children so far
abbrev pub invariant-loop-child : goal.invariant-loop-child
invariant-loop-child l = record {
  entries : l.writer.entries ≡ l.initial.writer.entries;
  messages : l.writer.messages ≡
      l.initial.writer.messages ++ map (sent_from l.at.node l.at.group.now) (to_each (take l.child-index l.children) (message.Cast l.number l.bytes));
  notes : l.writer.notes ≡ l.initial.writer.notes;
}
