use Rattle.trace_text.specs.Traces.{plain_trace}
use Rattle.pastry.proofs.ReadToEnd.{not_refused, read_trace}
use Rattle.pastry.proofs.checking.read_input.Goals as goal

pub returns-in-Ok-read_trace-clause-ok : goal.returns-in-Ok-read_trace-clause-ok
returns-in-Ok-read_trace-clause-ok g c =
    read_trace _ _ c.in-Ok.bytes.items c.deref.result.now (plain_trace c.in-Ok-read_trace.trace) c.deref.ensures.value
    (record { told = c.in-Ok.ensures.bytes; within = c.in-Ok.ensures.limit })
    (λ l. not_refused (c.in-Ok-read_trace.ensures.too_long l)) c.in-Ok-read_trace.ensures.read
