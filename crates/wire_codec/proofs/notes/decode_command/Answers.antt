-- What passes the walk is read, unless memory is refused, and what is refused is due and spells nothing.
use Rattle.std.proofs.Common.{arith}
use Rattle.wire_codec.specs.Notes.{fields_of_command, command_layout}
use Rattle.wire_codec.proofs.NoteFields.{command_matches, command_told}
use Rattle.wire_codec.proofs.Noted.{given_read, given_spelled, given_refused, walk_spells_none, walk_is_due}
use Rattle.wire_codec.proofs.notes.decode_command.Goals as goal

pub returns-in-Ok : goal.returns-in-Ok
returns-in-Ok c = record {
  read = given_read command_layout fields_of_command c.args.bytes.now c.command_at.result
      (λ i. omega (arith, c.type_inv.bytes i)) c.in-Ok.ensures c.command_at.ensures;
  spelled = given_spelled command_layout fields_of_command command_told command_matches c.args.bytes.now c.command_at.result
      (λ i. omega (arith, c.type_inv.bytes i))
      c.in-Ok.ensures c.command_at.ensures;
  refused = given_refused command_layout fields_of_command c.args.bytes.now c.command_at.result
      (λ i. omega (arith, c.type_inv.bytes i)) c.in-Ok.ensures
      c.command_at.ensures;
}

pub returns-in-Err-clause-spelled : goal.returns-in-Err-clause-spelled
returns-in-Err-clause-spelled c = λ x spells.
    absurd (walk_spells_none command_layout c.args.bytes.now c.in-Err.fault (fields_of_command x) (command_matches x) c.in-Err.ensures spells)

pub returns-in-Err-clause-refused : goal.returns-in-Err-clause-refused
returns-in-Err-clause-refused c = walk_is_due command_layout c.args.bytes.now c.in-Err.fault c.in-Err.ensures
