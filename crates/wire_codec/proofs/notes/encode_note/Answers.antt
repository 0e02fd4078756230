use Rattle.std.proofs.Common.{subst, sym, List, ℕ}
use Rattle.wire_codec.specs.Notes.{SpellsFields, fields_of_note}
use Rattle.wire_codec.proofs.notes.encode_note.Goals as goal

pub returns : goal.returns
returns c =
    subst (λ (bytes : List ℕ). SpellsFields bytes (fields_of_note c.args.note.now)) (sym c.from.ensures) c.in_ok-encode_note_into.ensures
