use Rattle.wire_msg.specs.Words.{plain_envelope}
use Rattle.trace_text.specs.Lines as lines
use Rattle.trace_text.proofs.Written.{lines_more}
use Rattle.trace_text.proofs.writer.put_messages.Goals as goal

pub loop-envelope-preserved : goal.loop-envelope-preserved
loop-envelope-preserved c =
    lines_more (λ e. lines.Sent (plain_envelope e)) c.args.messages.now c.loop-envelope.envelope-index c.envelope-item.result
    c.args.text.now _ _ c.loop-envelope-test.true c.envelope-item.is
    c.loop-envelope.invariant c.in_ok-put_sent.ensures
