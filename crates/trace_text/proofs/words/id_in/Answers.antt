use Rattle.std.proofs.Common.{sym, ◌∙◌}
use Rattle.trace_text.proofs.Ids.{id_spelled, id_not_lower, id_not_read}
use Rattle.trace_text.proofs.words.id_in.Goals as goal

pub returns-then-not-are_lower_digits : goal.returns-then-not-are_lower_digits
returns-then-not-are_lower_digits c =
    λ id spelled. id_not_lower c.args.text.now id (sym c.are_lower_digits.ensures ∙ c.if-not-are_lower_digits.true) spelled

pub returns-in-Ok : goal.returns-in-Ok
returns-in-Ok c = id_spelled c.args.text.now c.in-Ok.id (sym c.are_lower_digits.ensures ∙ c.if-not-are_lower_digits.false) (sym c.in-Ok.ensures)

pub returns-in-Err : goal.returns-in-Err
returns-in-Err c = λ id spelled. id_not_read c.args.text.now id _ (sym c.in-Err.ensures) spelled
