use Rattle.std.proofs.Common.{map, take}
use Rattle.wire_msg.specs.Words.{plain_envelope}
use Rattle.trace_text.specs.Lines as lines
use Rattle.trace_text.specs.Writing.{WritesLines}
use Rattle.trace_text.proofs.writer.put_messages.Given as goal

abbrev pub invariant-loop-envelope : goal.invariant-loop-envelope
invariant-loop-envelope l = WritesLines l.initial.text l.text (map (λ e. lines.Sent (plain_envelope e)) (take l.envelope-index l.messages))
