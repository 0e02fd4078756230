use Rattle.std.proofs.Common.{ℕ, List, sym, subst}
use Rattle.wire_msg.specs.Words.{plain_envelope, Envelope}
use Rattle.wire_codec.specs.Spelling.{Spells}
use Rattle.wire_codec.proofs.encoder.encode.Goals as goal

pub returns : goal.returns
returns c =
    let e : Envelope = plain_envelope c.args.envelope.now in
    subst (λ (bytes : List ℕ). Spells bytes e) (sym c.from.ensures) c.in_ok-encode_into.ensures
