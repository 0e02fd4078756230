use Rattle.std.proofs.Common.{◌++◌, List, ℕ, codes, ◌∙◌, ap}
use Rattle.hex.specs.Hex.{encode_lower}
use Rattle.trace_text.specs.Lines as lines
use Rattle.trace_text.proofs.Written.{line_written, on_ok}
use Rattle.trace_text.proofs.writer.put_note.Goals as goal

pub returns : goal.returns
returns c =
    let spells = c.in_ok-encode_note_into.ensures in
    on_ok c.put_hex.result c.put_hex.ensures (λ written. line_written (lines.Note c.args.note.now) _ written
    (ap (λ (bytes : List ℕ). codes "note " ++ encode_lower bytes ++ codes "\n") (c.deref.ensures.value ∙ spells.bytes_are)) spells.fits)
