use Rattle.std.proofs.Common.{◌++◌, List, ℕ, codes, ◌∙◌, ap, arith}
use Rattle.std.specs.Prelude.{decimal}
use Rattle.hex.specs.Hex.{encode_lower}
use Rattle.ring_math.specs.Texts.{text_of}
use Rattle.overlay_rules.specs.declared.entry.Event.TheVariants as event
use Rattle.trace_text.specs.Lines as lines
use Rattle.trace_text.proofs.Written.{line_written, three_written, command_spelled, on_ok}
use Rattle.trace_text.proofs.writer.put_command.Goals as goal

pub returns : goal.returns
returns c =
    let spells = c.in_ok-bytes.ensures in
    let spelled = ap (λ (bytes : List ℕ). codes " " ++ encode_lower bytes ++ codes "\n") (c.as_slice.ensures ∙ spells.bytes_are) in
    on_ok c.put_hex.result c.put_hex.ensures (λ written. line_written (lines.Event (event.Command c.args.node c.args.number c.args.command.now)) _
    (three_written _ _ _ _ _ _ _ c.in_ok-id_after.ensures c.in_ok-number_after.ensures written)
    (ap (λ (rest : List ℕ). (codes "command " ++ text_of c.args.node) ++ ((codes " " ++ decimal c.args.number) ++ rest)) spelled
    ∙ command_spelled (text_of c.args.node) (decimal c.args.number) (lines.command_text c.args.command.now))
    (omega arith, omega arith, spells.fits))
