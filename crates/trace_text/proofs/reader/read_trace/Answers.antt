use Rattle.std.proofs.Common.{◌∷◌, length, length-append, ap, ◌∙◌, arith}
use Rattle.trace_text.specs.Fronts.{plain_front}
use Rattle.trace_text.proofs.Unique.{spelled_err, spelled_read}
use Rattle.trace_text.proofs.Reading.{begins_next, size_next, fault_told, finished_read, finished_refused}
use Rattle.trace_text.proofs.reader.read_trace.Goals as goal

pub returns-in-Err-clause-refused : goal.returns-in-Err-clause-refused
returns-in-Err-clause-refused c = λ fits.
    rw c.fault_at.ensures (fault_told c.args.bytes.now (plain_front c.loop-text.front) c.loop-text.line c.in-Some.text.now c.in-Some.behind.now
    c.loop-text.rest.now c.in-Err.refusal c.loop-text.invariant.begins c.loop-text.invariant.number c.in-Some.ensures.0 c.in-Some.ensures.1 c.in-Err.ensures)

pub loop-text-preserved : goal.loop-text-preserved
loop-text-preserved c =
    let f = plain_front c.loop-text.front in
    let g = plain_front c.next_front.new.front in
    let text = c.in-Some.text.now in
    let behind = c.in-Some.behind.now in
    let size = ap length c.in-Some.ensures.0 ∙ length-append text (10 ∷ behind) in
    record {
      begins = begins_next c.args.bytes.now f g text behind c.loop-text.rest.now c.loop-text.invariant.begins c.in-Some.ensures.0 c.in-Ok.ensures;
      number = omega (arith, c.loop-text.invariant.number, size_next f g text c.in-Ok.ensures);
      room = omega (arith, c.loop-text.invariant.room, size);
    }

pub returns-clause-read : goal.returns-clause-read
returns-clause-read c =
    finished_read c.args.bytes.now (plain_front c.loop-text.front) c.loop-text.rest.now c.finished.result c.loop-text.invariant.begins c.finished.ensures.whole

pub returns-clause-refused : goal.returns-clause-refused
returns-clause-refused c = λ fits.
    finished_refused c.args.bytes.now (plain_front c.loop-text.front) c.loop-text.line c.loop-text.rest.now c.finished.result c.loop-text.invariant.begins
    c.loop-text.invariant.number c.in_default.ensures c.finished.ensures.refused

pub returns-in-Err-clause-spelled : goal.returns-in-Err-clause-spelled
returns-in-Err-clause-spelled c = λ fits t of_bytes.
    rw c.fault_at.ensures (spelled_err c.args.bytes.now _ t
    (fault_told c.args.bytes.now (plain_front c.loop-text.front) c.loop-text.line c.in-Some.text.now c.in-Some.behind.now
    c.loop-text.rest.now c.in-Err.refusal c.loop-text.invariant.begins c.loop-text.invariant.number c.in-Some.ensures.0 c.in-Some.ensures.1 c.in-Err.ensures)
    of_bytes)

pub returns-clause-spelled : goal.returns-clause-spelled
returns-clause-spelled c = λ fits t of_bytes.
    spelled_read c.args.bytes.now c.finished.result t
    (finished_read c.args.bytes.now (plain_front c.loop-text.front) c.loop-text.rest.now c.finished.result c.loop-text.invariant.begins
    c.finished.ensures.whole)
    (finished_refused c.args.bytes.now (plain_front c.loop-text.front) c.loop-text.line c.loop-text.rest.now c.finished.result c.loop-text.invariant.begins
    c.loop-text.invariant.number c.in_default.ensures c.finished.ensures.refused)
    of_bytes
