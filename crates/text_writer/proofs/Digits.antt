-- The digits of hexadecimal in lower case, by their values.
use Rattle.std.proofs.Common.{◌≡◌, ℕ, ◌+◌, ◌-◌, ◌<◌, ◌≤◌, eqb, slice_index, refl, ap, ◌∙◌, arith}
use Rattle.std.proofs.lemmas.Bool.{eqb-true}
use Rattle.hex.specs.Hex.{lower_digits}
use Rattle.text_writer.proofs.Tables.{all_below-at}

pub number_digit : (value : ℕ) → value < 10 → slice_index lower_digits value ≡ 48 + value
number_digit value small =
    eqb-true (slice_index lower_digits value) (48 + value) (all_below-at (λ (v : ℕ). eqb (slice_index lower_digits v) (48 + v)) 10 value refl small)

pub letter_digit : (value : ℕ) → 10 ≤ value → value < 16 → slice_index lower_digits value ≡ 87 + value
letter_digit value large small =
    let past : ℕ = value - 10 in
    let found : slice_index lower_digits (10 + past) ≡ 97 + past =
    eqb-true (slice_index lower_digits (10 + past)) (97 + past)
    (all_below-at (λ (v : ℕ). eqb (slice_index lower_digits (10 + v)) (97 + v)) 6 past refl (omega arith))
    in
    let whole : value ≡ 10 + past = omega arith in
    let told : 97 + past ≡ 87 + value = omega arith in
    ap (slice_index lower_digits) whole ∙ found ∙ told
