-- A number in decimal as a word: it is no flag, and is read as itself.
use Rattle.std.proofs.Common.{◌≡◌, ◌≢◌, ◌<◌, ◌≤◌, ◌^◌, ℕ, true, false, ◌==◌, [], ◌∷◌, length, decimal, slice_index, pos, nat_lt, nat_le, refl, arith, le-leb}
use Rattle.std.specs.Char.{digit_value}
use Rattle.std.specs.List.{list_all}
use Rattle.std.specs.Str.Parse.{IsNumeral, AllDigits, digits_value}
use Rattle.std.proofs.lemmas.Bool.Decides.{nat_tests}
use Rattle.std.proofs.lemmas.Fmt.{decimal_is_IsNumeral}
use Rattle.std.proofs.lemmas.Str.Parse.{digit_from_value}
use Rattle.clap.specs.Values.{read_as}
use Rattle.clap.specs.ValueTests.{accepts, is_numeral, is_signed_in, is_unsigned_in}
use Rattle.clap.specs.Walk.{Text}
use Rattle.clap.specs.declared.builder.value_parser.Reading.TheVariants.{WithoutMinus}
use Rattle.clap.specs.declared.builder.value_parser.ValueParser.TheVariants as vp
use Rattle.cli_words.specs.Command.{number_in}
use Rattle.cli_words.proofs.Steps.{IsPlainValue}

not_equal : (a b : ℕ) → a ≢ b → (a == b) ≡ false
not_equal a b h = grind (arith, nat_tests)

is_below : (a b : ℕ) → a < b → nat_lt a b ≡ true
is_below a b h = grind (arith, nat_tests)

-- the first byte of a numeral is no sign
pub record IsUnsigned (t : Text) : Type 0 where
  pub no_minus : (slice_index t 0 == 45) ≡ false
  pub no_plus : (slice_index t 0 == 43) ≡ false

numeral_is_unsigned : (t : Text) → IsNumeral 10 t → IsUnsigned t
numeral_is_unsigned [] h = absurd (let some = h.0 in omega arith)
numeral_is_unsigned (c ∷ cs) h =
    let range = digit_from_value c h.1.0 in
    record { no_minus = not_equal c 45 (λ e. let low = range.0 in omega arith); no_plus = not_equal c 43 (λ e. let low = range.0 in omega arith) }

numeral_is_plain : (t : Text) → IsNumeral 10 t → IsPlainValue t
numeral_is_plain [] h = absurd (let some = h.0 in omega arith)
numeral_is_plain (c ∷ cs) h =
    let no_minus = (numeral_is_unsigned (c ∷ cs) h).no_minus in
    record { long = rw no_minus refl; short = rw no_minus refl; dashes = rw no_minus refl }

numeral_as_read : (t : Text) → IsNumeral 10 t → read_as WithoutMinus t ≡ t
numeral_as_read [] h = refl
numeral_as_read (c ∷ cs) h = let no_minus = (numeral_is_unsigned (c ∷ cs) h).no_minus in rw no_minus refl

digits_all : (cs : Text) → AllDigits 10 cs → list_all (λ d. nat_lt (digit_value d) 10) cs ≡ true
digits_all [] h = refl
digits_all (c ∷ cs) h = let digit = is_below (digit_value c) 10 h.0 in rw digit (digits_all cs h.1)

numeral_test : (t : Text) → IsNumeral 10 t → is_numeral t ≡ true
numeral_test t h = let some = is_below 0 (length t) h.0 in rw some (digits_all t h.1)

signed_as : (t : Text) (n low high : ℕ) → IsNumeral 10 t → digits_value 10 t ≡ n → low ≤ n → n ≤ high → n < 2 ^ 63 → is_signed_in (pos low) (pos high) t ≡ true
signed_as t n low high h is least most fits =
    let sign = numeral_is_unsigned t h in
    let no_minus = sign.no_minus in let no_plus = sign.no_plus in let numeral = numeral_test t h in
    let fit : nat_lt n (2 ^ 63) ≡ true = is_below n (2 ^ 63) fits in
    let low_le : nat_le low n ≡ true = le-leb low n least in
    let high_le : nat_le n high ≡ true = le-leb n high most in
    rw (no_minus, no_plus, numeral, is, fit, low_le, high_le) refl

unsigned_as : (t : Text) (n most : ℕ) → IsNumeral 10 t → digits_value 10 t ≡ n → n ≤ most → n < 2 ^ 64 → is_unsigned_in 0 most t ≡ true
unsigned_as t n most h is few fits =
    let no_plus = (numeral_is_unsigned t h).no_plus in let numeral = numeral_test t h in
    let fit : nat_lt n (2 ^ 64) ≡ true = is_below n (2 ^ 64) fits in
    let least : nat_le 0 n ≡ true = le-leb 0 n (omega arith) in
    let within : nat_le n most ≡ true = le-leb n most few in
    rw (no_plus, numeral, is, fit, least, within) refl

number_as : (t : Text) (n most other : ℕ) → IsNumeral 10 t → digits_value 10 t ≡ n → n ≤ most → n < 2 ^ 64 → number_in most other t ≡ n
number_as t n most other h is few fits =
    let test = unsigned_as t n most h is few fits in let no_plus = (numeral_is_unsigned t h).no_plus in
    rw (test, no_plus) is

-- ---- of decimals

pub decimal_is_plain : (n : ℕ) → n < 2 ^ 64 → IsPlainValue (decimal n)
decimal_is_plain n h = numeral_is_plain (decimal n) (decimal_is_IsNumeral n h).0

pub decimal_as_read : (n : ℕ) → n < 2 ^ 64 → read_as WithoutMinus (decimal n) ≡ decimal n
decimal_as_read n h = numeral_as_read (decimal n) (decimal_is_IsNumeral n h).0

pub decimal_signed : (n low high : ℕ) → low ≤ n → n ≤ high → n < 2 ^ 63 → accepts false (vp.Signed (pos low) (pos high)) (decimal n) ≡ true
decimal_signed n low high least most fits =
    let numeral = decimal_is_IsNumeral n (omega arith) in signed_as (decimal n) n low high numeral.0 numeral.1 least most fits

pub decimal_unsigned : (n : ℕ) → n < 2 ^ 64 → accepts false (vp.Unsigned 0 18446744073709551615) (decimal n) ≡ true
decimal_unsigned n h =
    let numeral = decimal_is_IsNumeral n h in unsigned_as (decimal n) n 18446744073709551615 numeral.0 numeral.1 (omega arith) h

pub decimal_number : (n most other : ℕ) → n ≤ most → n < 2 ^ 64 → number_in most other (decimal n) ≡ n
decimal_number n most other few h =
    let numeral = decimal_is_IsNumeral n h in number_as (decimal n) n most other numeral.0 numeral.1 few h
