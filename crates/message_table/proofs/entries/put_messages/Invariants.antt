use Rattle.std.proofs.Common.{◌≡◌, ◌++◌, ◌+◌, drop, map}
use Rattle.wire_msg.specs.Words.{plain_envelope}
use Rattle.message_table.specs.Entries.{message_lines}
use Rattle.message_table.proofs.entries.put_messages.Given as goal

-- the lines so far, and those still to come, the next of which has this number
abbrev pub invariant-loop-envelope : goal.invariant-loop-envelope
invariant-loop-envelope l = record {
  number : l.number ≡ l.first + l.envelope-index;
  lines : l.text ++ message_lines l.labels l.number (map plain_envelope (drop l.envelope-index l.messages)) ≡ l.initial.text
      ++ message_lines l.labels l.first (map plain_envelope l.messages);
}
