use Rattle.std.proofs.Common.{◌++◌, List, ℕ, codes, ◌∙◌, ap}
use Rattle.hex.specs.Hex.{encode_lower}
use Rattle.wire_msg.specs.Words.{plain_envelope}
use Rattle.trace_text.specs.Lines as lines
use Rattle.trace_text.proofs.Written.{line_written, on_ok}
use Rattle.trace_text.proofs.writer.put_sent.Goals as goal

pub returns : goal.returns
returns c =
    let spells = c.in_ok-encode_into.ensures in
    on_ok c.put_hex.result c.put_hex.ensures (λ written. line_written (lines.Sent (plain_envelope c.args.envelope.now)) _ written
    (ap (λ (bytes : List ℕ). codes "sent " ++ encode_lower bytes ++ codes "\n") (c.deref.ensures.value ∙ spells.bytes_are)) spells.fits)
