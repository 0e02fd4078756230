use Rattle.trace_text.proofs.Refused.{command_unread}
use Rattle.trace_text.proofs.operands.command_in.Goals as goal

pub returns-in-Err : goal.returns-in-Err
returns-in-Err c =
    rw c.refusal_of.ensures (command_unread c.args.text.now c.bytes_in.new.buffer.items c.in-Err.fault c.in_ok-bytes_in.ensures.read
    (rw c.deref.ensures.value at c.in-Err.ensures.spelled))
