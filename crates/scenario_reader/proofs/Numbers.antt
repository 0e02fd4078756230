-- Decimal numbers, digit by digit.
use Rattle.std.proofs.Common.{◌≡◌, ℕ, ◌+◌, ◌*◌, ◌^◌, ◌<◌, ◌≤◌, true, false, List, [], ◌∷◌, length, get_or, drop, arith, refl, IsTrue, Option, Some, None, sym}
use Rattle.std.proofs.Common.{ap}
use Rattle.std.specs.List.{list_all}
use Rattle.std.specs.Option.{SomeIff}
use Rattle.std.specs.Char.{digit_value, is_ascii_digit}
use Rattle.std.specs.Str.Parse.{digits_value, digits_value_after}
use Rattle.std.proofs.lemmas.Bool.{le-leb, lt-leb, and_from, and_parts, and_right}
use Rattle.std.proofs.lemmas.List.{at_drop_more}
use Rattle.std.proofs.lemmas.List.Sums.{AllPass-from_list_all}
use Rattle.scenario_reader.specs.Spelling.{is_decimal, number_of}

-- further digits make a number no smaller
pub digits_value_after-ge : (before : ℕ) (digits : List ℕ) → before ≤ digits_value_after 10 before digits
digits_value_after-ge before [] = omega arith
digits_value_after-ge before (digit ∷ digits) =
    omega (arith, digits_value_after-ge (before * 10 + digit_value digit) digits)

-- one digit more
pub digits_value_after-more : (before : ℕ) (text : List ℕ) (i : ℕ) → i < length text →
    digits_value_after 10 before (drop i text) ≡ digits_value_after 10 (before * 10 + digit_value (get_or text i 0)) (drop (i + 1) text)
digits_value_after-more before text i within = at_drop_more (digits_value_after 10 before) text i 0 within

-- a decimal spelling has digits alone
pub list_all-from_decimal : (text : List ℕ) → is_decimal text ≡ true → list_all is_ascii_digit text ≡ true
list_all-from_decimal [] h = refl
list_all-from_decimal (digit ∷ []) h = and_from _ _ h refl
list_all-from_decimal (digit ∷ next ∷ digits) h = (and_parts _ _ h).1

pub digit-from_decimal : (text : List ℕ) (i : ℕ) → is_decimal text ≡ true → i < length text → IsTrue (is_ascii_digit (get_or text i 0))
digit-from_decimal text i decimal within = AllPass-from_list_all is_ascii_digit text (list_all-from_decimal text decimal) i 0 within

-- what a decimal spelling spells
pub number_of-some : (text : List ℕ) (value : ℕ) → is_decimal text ≡ true → value ≡ digits_value 10 text → value < 2 ^ 64 → number_of text ≡ Some value
number_of-some text value decimal same small =
    let fits = le-leb (digits_value 10 text) 18446744073709551615 (omega arith) in rw (decimal, fits) (ap Some (sym same))

pub number_of-none : (text : List ℕ) → 2 ^ 64 ≤ digits_value 10 text → number_of text ≡ None
number_of-none text large =
    let passes = lt-leb (digits_value 10 text) 18446744073709551615 (omega arith) in rw passes (rw (and_right _ false refl) refl)

-- where no value came, the bound is passed
pub too_large : (answer : Option ℕ) (value : ℕ) → answer ≡ None → SomeIff answer (value < 2 ^ 64) value → 2 ^ 64 ≤ value
too_large None value is why = omega (arith, why)
too_large (Some found) value is why = cc
