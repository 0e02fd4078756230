-- What passes the check is read, unless memory is refused, and what is refused is due and spells nothing.
use Rattle.std.proofs.Common.{arith}
use Rattle.wire_codec.proofs.Refusals.{refused_is_due, refused_spells_none}
use Rattle.wire_codec.proofs.Decoded.{decoded_read, decoded_spelled, decoded_refused}
use Rattle.wire_codec.proofs.decoder.decode.Goals as goal

pub returns-in-Ok : goal.returns-in-Ok
returns-in-Ok c = record {
  read = decoded_read c.args.bytes.now c.in-Ok.kind c.envelope_at.result (λ i. omega (arith, c.type_inv.bytes i)) c.in-Ok.ensures.value c.envelope_at.ensures;
  spelled = decoded_spelled c.args.bytes.now c.in-Ok.kind c.envelope_at.result
      (λ i. omega (arith, c.type_inv.bytes i)) c.in-Ok.ensures.value c.envelope_at.ensures;
  refused = decoded_refused c.args.bytes.now c.in-Ok.kind c.envelope_at.result c.in-Ok.ensures.value c.envelope_at.ensures;
}

pub returns-in-Err-clause-spelled : goal.returns-in-Err-clause-spelled
returns-in-Err-clause-spelled c = λ e spells. absurd (refused_spells_none c.args.bytes.now c.in-Err.fault e c.in-Err.ensures.value spells)

pub returns-in-Err-clause-refused : goal.returns-in-Err-clause-refused
returns-in-Err-clause-refused c = refused_is_due c.args.bytes.now c.in-Err.fault c.in-Err.ensures.value
