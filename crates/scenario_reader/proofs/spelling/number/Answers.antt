use Rattle.std.proofs.Common.{◌+◌, ◌*◌, get_or, drop, sym, ◌∙◌, arith}
use Rattle.std.specs.Char.{digit_value}
use Rattle.std.specs.Str.Parse.{digits_value_after}
use Rattle.std.proofs.lemmas.List.{at_drop_all}
use Rattle.scenario_reader.proofs.Numbers.{digits_value_after-ge, digits_value_after-more, number_of-some, number_of-none, too_large}
use Rattle.scenario_reader.proofs.spelling.number.Goals as goal

pub returns-in_err-value : goal.returns-in_err-value
returns-in_err-value c =
    let text = c.args.text.now in
    let i = c.loop-digit.digit-index in
    let before = c.loop-digit.value in
    let more = digits_value_after-more before text i c.loop-digit-test.true in
    let after = digits_value_after-ge (before * 10 + digit_value (get_or text i 0)) (drop (i + 1) text) in
    let refused = too_large _ _ c.in_err-value.was c.with_digit.ensures in
    c.from_residual.ensures ∙ sym (number_of-none text (omega (arith, more, after, refused, c.loop-digit.invariant.whole)))

pub returns : goal.returns
returns c =
    let read = at_drop_all (digits_value_after 10 c.loop-digit.value) c.args.text.now c.loop-digit.digit-index c.loop-digit-test.false in
    let decimal = sym c.is_decimal.ensures ∙ c.if-not-is_decimal.false in
    sym (number_of-some c.args.text.now c.loop-digit.value decimal (sym read ∙ c.loop-digit.invariant.whole) c.loop-digit.invariant.small)
