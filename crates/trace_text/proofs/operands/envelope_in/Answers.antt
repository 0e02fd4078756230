use Rattle.std.proofs.lemmas.Result.{err_from_is_err_and}
use Rattle.trace_text.proofs.Refused.{sent_digits, sent_unread}
use Rattle.trace_text.proofs.operands.envelope_in.Goals as goal

pub returns-in_err-bytes_in : goal.returns-in_err-bytes_in
returns-in_err-bytes_in c =
    let p = err_from_is_err_and c.from_residual.result c.from_residual.ensures.1 in
    rw (p.1, p.2) (sent_digits c.args.text.now _ c.in_err-bytes_in.ensures.refused)

pub returns-in-Err : goal.returns-in-Err
returns-in-Err c =
    rw c.refusal_of.ensures (sent_unread c.args.text.now c.bytes_in.new.buffer.items c.in-Err.fault c.in_ok-bytes_in.ensures.read
    (rw c.deref.ensures.value at c.in-Err.ensures.spelled))
