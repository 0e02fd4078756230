use Rattle.std.proofs.Common.{subst, sym, List, ℕ}
use Rattle.wire_codec.specs.Notes.{SpellsFields, fields_of_command}
use Rattle.wire_codec.proofs.Noted.{written_spells}
use Rattle.wire_codec.proofs.notes.encode_command.Goals as goal

pub returns : goal.returns
returns c =
    subst (λ (bytes : List ℕ). SpellsFields bytes (fields_of_command c.args.command.now)) (sym c.from.ensures)
    (written_spells c.new-out.ensures.items c.in_ok-put_command.ensures)
