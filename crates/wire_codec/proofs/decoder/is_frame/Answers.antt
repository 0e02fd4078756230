-- What passes the check is a frame, and nothing else is.
use Rattle.std.proofs.Common.{arith}
use Rattle.wire_codec.proofs.Decoded.{tested_spelled, tested_refused}
use Rattle.wire_codec.proofs.decoder.is_frame.Goals as goal

pub returns : goal.returns
returns c =
    let is = c.is_ok.ensures.value in
    record {
      spelled = rw is (tested_spelled c.args.bytes.now c.check.result (λ i. omega (arith, c.type_inv.bytes i)) c.check.ensures.value);
      refused = rw is (tested_refused c.args.bytes.now c.check.result c.check.ensures.value);
    }
