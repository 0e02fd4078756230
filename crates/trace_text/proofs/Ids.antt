-- Identifiers and numbers as words: what is written is read, and what is read was written so.
use Rattle.std.proofs.Common.{◌≡◌, ℕ, ◌/◌, ◌%◌, ◌^◌, ◌<◌, ◌≤◌, Bool, true, false, cond, not, ◌&&◌, eqb, List, [], ◌∷◌, length, get_or, ◌⊎◌, inl}
use Rattle.std.proofs.Common.{inr, Some, None, Result, Ok, Err, refl, sym, ap, subst, ◌∙◌, arith}
use Rattle.std.specs.Prelude.{nat_le, decimal}
use Rattle.std.specs.Char.{is_ascii_digit}
use Rattle.std.specs.Int.{w128, to_be_bytes, from_be_bytes}
use Rattle.std.specs.List.{list_all}
use Rattle.std.specs.Str.{all_ascii_digits}
use Rattle.std.specs.Str.Parse.{digits_value}
use Rattle.std.proofs.lemmas.Bool.{and_from, and_parts, cases_lt, eqb-true, eqb-false, ne_eqb, leb-true}
use Rattle.std.proofs.lemmas.Fmt.{decimal-digits_value, digits_decimal, digits_value-decimal, decimal_nonempty, first_decimal, decimal_digit}
use Rattle.std.proofs.lemmas.Str.Parse.{IsNumeralModel, numerals_by_value, tells_all_ascii_digits}
use Rattle.hex.specs.Hex.{decode_sized, encode_lower, lower_digits}
use Rattle.hex.proofs.HexLemmas.{length-encode_with}
use Rattle.hex.proofs.Pairs.{decode_sized-pairs}
use Rattle.ring_math.specs.Texts.{id_read}
use Rattle.ring_math.specs.declared.text.IdFault.{IdFault}
use Rattle.ring_math.proofs.Spelling.{id_read-decoded, id_read-text_of, id_read-length}
use Rattle.scenario_reader.specs.Spelling.{is_decimal, number_of}
use Rattle.scenario_reader.proofs.Numbers.{list_all-from_decimal, number_of-some}
use Rattle.wire_codec.proofs.Numbers.{wide128}
use Rattle.trace_text.specs.Digits.{is_lower_digit, IsIdText, IsNumberText}
use Rattle.trace_text.proofs.Bytes.{id_bytes}
use Rattle.trace_text.proofs.Digits.{pairs_read, encoded_lower}

-- ---- identifiers

ok_told : (m n : ℕ) (r : Result ℕ IdFault) → r ≡ Ok m → r ≡ Ok n → m ≡ n
ok_told m n r one two = let both : (Ok m) ≡ (Ok n) = sym one ∙ two in cc

id_size : (text : List ℕ) (b : Bool) (n : ℕ) → eqb (length text) 32 ≡ b → id_read text ≡ Ok n → length text ≡ 32
id_size text true n is e = eqb-true (length text) 32 is
id_size text false n is e = let refused = id_read-length text (λ same. eqb-false (length text) 32 is same) in cc

-- what was read of lower case is spelled so
pub id_spelled : (text : List ℕ) (id : ℕ) → list_all is_lower_digit text ≡ true → id_read text ≡ Ok id → IsIdText text id
id_spelled text id lower e =
    let size = id_size text (eqb (length text) 32) id refl e in
    let even : length text % 2 ≡ 0 = omega (arith, size) in
    let half : length text / 2 ≡ 16 = omega (arith, size) in
    let read = pairs_read 0 text even lower in
    let decoded : decode_sized text 16 ≡ Ok read.bytes = decode_sized-pairs text 16 even half ∙ read.decoded in
    let id_is : from_be_bytes w128 read.bytes ≡ id = ok_told (from_be_bytes w128 read.bytes) id (id_read text)
    (id_read-decoded text read.bytes size decoded) e in
    let long : length read.bytes ≡ 16 = omega (arith, size, ap length read.spelled, length-encode_with lower_digits read.bytes) in
    let spelled : to_be_bytes w128 (from_be_bytes w128 read.bytes) ≡ read.bytes = wide128.back read.bytes long read.fit in
    subst (IsIdText text) id_is (record {
      text_is = sym read.spelled ∙ ap encode_lower (sym spelled);
      fits = wide128.below read.bytes read.fit;
    })

-- what is spelled is in lower case, and is read
pub spelled_lower : (text : List ℕ) (id : ℕ) → IsIdText text id → list_all is_lower_digit text ≡ true
spelled_lower text id spelled = ap (list_all is_lower_digit) spelled.text_is ∙ encoded_lower (to_be_bytes w128 id) (id_bytes id)

pub spelled_read : (text : List ℕ) (id : ℕ) → IsIdText text id → id_read text ≡ Ok id
spelled_read text id spelled = ap id_read spelled.text_is ∙ id_read-text_of id spelled.fits

pub id_not_lower : (text : List ℕ) (id : ℕ) → list_all is_lower_digit text ≡ false → IsIdText text id → ⊥
id_not_lower text id upper spelled = let lower = spelled_lower text id spelled in cc

pub id_not_read : (text : List ℕ) (id : ℕ) (e : IdFault) → id_read text ≡ Err e → IsIdText text id → ⊥
id_not_read text id e refused spelled = let read = spelled_read text id spelled in cc

-- ---- numbers

own : IsNumeralModel (λ ds. all_ascii_digits ds ≡ true) (digits_value 10)
own = numerals_by_value _ tells_all_ascii_digits

digits_all : (text : List ℕ) → list_all is_ascii_digit text ≡ true → all_ascii_digits text ≡ true
digits_all [] h = refl
digits_all (c ∷ cs) h =
    let parts = and_parts (is_ascii_digit c) (list_all is_ascii_digit cs) h in
    and_from (is_ascii_digit c) (all_ascii_digits cs) parts.0 (digits_all cs parts.1)

all_digits : (text : List ℕ) → all_ascii_digits text ≡ true → list_all is_ascii_digit text ≡ true
all_digits [] h = refl
all_digits (c ∷ cs) h =
    let parts = and_parts (is_ascii_digit c) (all_ascii_digits cs) h in
    and_from (is_ascii_digit c) (list_all is_ascii_digit cs) parts.0 (all_digits cs parts.1)

pub decimal_digits : (n : ℕ) → n < 2 ^ 64 → list_all is_ascii_digit (decimal n) ≡ true
decimal_digits n fits = all_digits (decimal n) (digits_decimal own n fits)

some_byte : (text : List ℕ) → is_decimal text ≡ true → 0 < length text
some_byte [] h = cc
some_byte (c ∷ cs) h = omega arith

zero_alone : (text : List ℕ) → is_decimal text ≡ true → get_or text 0 0 ≡ 48 → length text ≡ 1
zero_alone [] h first = cc
zero_alone (c ∷ []) h first = refl
zero_alone (c ∷ d ∷ ds) h first =
    let other : not (eqb c 48) ≡ true = (and_parts (not (eqb c 48)) (list_all is_ascii_digit (c ∷ d ∷ ds)) h).0 in
    let same : eqb c 48 ≡ true = ap (λ (k : ℕ). eqb k 48) first in
    let none : not true ≡ true = rw same at other in
    cc

-- what is read was spelled so
number_by : (text : List ℕ) (n : ℕ) (decimal_too small : Bool) → is_decimal text ≡ decimal_too → nat_le (digits_value 10 text) 18446744073709551615 ≡ small
    → cond (decimal_too && small) (Some (digits_value 10 text)) None ≡ Some n → IsNumberText text n
number_by text n true true is fits e =
    let value : digits_value 10 text ≡ n = cc in
    let small : digits_value 10 text < 2 ^ 64 = omega (arith, leb-true (digits_value 10 text) 18446744073709551615 fits) in
    subst (IsNumberText text) value (record {
      text_is = sym (decimal-digits_value own text (digits_all text (list_all-from_decimal text is)) (some_byte text is) (zero_alone text is) small);
      fits = small;
    })
number_by text n true false is fits e = absurd cc
number_by text n false small is fits e = absurd cc

number_unfolds : (text : List ℕ) → number_of text ≡ cond (is_decimal text && nat_le (digits_value 10 text) 18446744073709551615)
    (Some (digits_value 10 text)) None
number_unfolds text = refl

pub number_spelled : (text : List ℕ) (n : ℕ) → number_of text ≡ Some n → IsNumberText text n
number_spelled text n e = number_by text n (is_decimal text) (nat_le (digits_value 10 text) 18446744073709551615) refl refl (sym (number_unfolds text) ∙ e)

-- what is spelled is read
decimal_from_digits : (text : List ℕ) → list_all is_ascii_digit text ≡ true → 0 < length text → (get_or text 0 0 ≡ 48 → length text ≡ 1) →
    is_decimal text ≡ true
decimal_from_digits [] digits some alone = absurd (omega arith)
decimal_from_digits (c ∷ []) digits some alone = (and_parts (is_ascii_digit c) true digits).0
decimal_from_digits (c ∷ d ∷ ds) digits some alone =
    let other : eqb c 48 ≡ false = ne_eqb c 48 (λ same. absurd (omega (arith, alone same))) in
    and_from (not (eqb c 48)) (list_all is_ascii_digit (c ∷ d ∷ ds)) (ap not other) digits

first_zero : (n : ℕ) → n < 2 ^ 64 → get_or (decimal n) 0 0 ≡ 48 → length (decimal n) ≡ 1
first_zero n fits first = by_size (cases_lt 0 n) where
  by_size : (0 < n) ⊎ (n ≤ 0) → length (decimal n) ≡ 1
  by_size (inl some) = absurd (omega (arith, first_decimal n some fits, first))
  by_size (inr none) =
      let zero_is : n ≡ 0 = omega arith in
      ap length (decimal_digit n (omega arith))

pub number_read : (text : List ℕ) (n : ℕ) → IsNumberText text n → number_of text ≡ Some n
number_read text n spelled =
    let digits = decimal_digits n spelled.fits in
    let is = decimal_from_digits (decimal n) digits (decimal_nonempty n spelled.fits) (first_zero n spelled.fits) in
    ap number_of spelled.text_is ∙ number_of-some (decimal n) n is (sym (digits_value-decimal own n spelled.fits)) spelled.fits

pub number_not_read : (text : List ℕ) (n : ℕ) → number_of text ≡ None → IsNumberText text n → ⊥
number_not_read text n refused spelled = let read = number_read text n spelled in cc
