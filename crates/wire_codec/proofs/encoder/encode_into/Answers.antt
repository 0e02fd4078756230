-- The header and the fields that were written are the spelling.
use Rattle.std.proofs.Common.{◌+◌, arith}
use Rattle.wire_msg.specs.Words.{plain_envelope, Envelope}
use Rattle.wire_codec.proofs.Written.{frame_written}
use Rattle.wire_codec.proofs.encoder.encode_into.Goals as goal

pub returns : goal.returns
returns c =
    let e : Envelope = plain_envelope c.args.envelope.now in
    let header = rw (
      c.in_ok-reserve.ensures.items,
      c.clear.ensures.items,
      c.number-version.ensures,
      c.number-number.ensures,
      c.version.ensures,
      c.of_message-kind.ensures,
    ) at c.in_ok-put_header.ensures in
    frame_written e (40 + c.message_size-size.result) header
    (omega (arith, c.message_size-size.ensures.value)) c.in_ok-put_addresses.ensures c.in_ok-put_message.ensures
