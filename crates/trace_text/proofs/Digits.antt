-- Digits of hexadecimal in lower case, and decimal digits: what is written is read, and what is read was written so.
use Rattle.std.proofs.Common.{◌≡◌, ℕ, suc, ◌+◌, ◌*◌, ◌/◌, ◌%◌, ◌<◌, Bool, true, false, cond, ◌&&◌, eqb, List, [], ◌∷◌}
use Rattle.std.proofs.Common.{zero, ◌++◌, ◌≤◌, drop, length, take, slice_set, append_assoc}
use Rattle.std.proofs.lemmas.List.{take-append-drop, take-take, take_all, take_more, take_more_set}
use Rattle.std.proofs.Common.{slice_index, Option, Some, None, unwrap_or, Result, Ok, Err, refl, sym, ap, subst, ◌∙◌, arith}
use Rattle.std.specs.Prelude.{nat_lt, MatchResult}
use Rattle.std.specs.List.{list_all}
use Rattle.std.specs.Result.{result_unwrap_or}
use Rattle.std.proofs.lemmas.Bool.{and_from, and_parts, eqb-true, ltb-true}
use Rattle.std.proofs.lemmas.Bool.Decides.{nat_tests}
use Rattle.hex.specs.Hex.{decode_pairs, decode_sized, encode_lower, encode_with, hex_digit_value, lower_digits, pair_value}
use Rattle.hex.specs.declared.error.FromHexError.{FromHexError}
use Rattle.hex.proofs.HexLemmas.{length-encode_with, decode_sized-encode_lower, decode_sized-ok}
use Rattle.hex.proofs.Pairs.{cons_byte, decode_pairs-ok_pair, decode_sized-pairs}
use Rattle.wire_codec.specs.Fields.{AreBytes}
use Rattle.trace_text.specs.Digits.{is_lower_digit, AreDigitsOf}
use Rattle.trace_text.proofs.Bytes.{AreBytes-none, AreBytes-more, AreBytes-append}
use Rattle.text_writer.proofs.Tables.{all_below-at}

-- ---- one digit

abbrev value_of : ℕ → ℕ
value_of digit = unwrap_or (hex_digit_value digit) 99

abbrev reads_back : ℕ → Bool
reads_back digit = cond (is_lower_digit digit) (nat_lt (value_of digit) 16 && eqb (slice_index lower_digits (value_of digit)) digit) true

-- a digit has a value, and is the digit of that
record IsDigitOf (digit value : ℕ) : Type 0 where
  value_is : hex_digit_value digit ≡ Some value
  small : value < 16
  digit_is : slice_index lower_digits value ≡ digit

some_value : (o : Option ℕ) → unwrap_or o 99 < 16 → o ≡ Some (unwrap_or o 99)
some_value (Some v) small = refl
some_value None small = absurd (omega arith)

lower_small : (digit : ℕ) → is_lower_digit digit ≡ true → digit < 103
lower_small digit h = grind (arith, nat_tests, h)

lower_read : (digit : ℕ) → is_lower_digit digit ≡ true → IsDigitOf digit (value_of digit)
lower_read digit h =
    let tried : reads_back digit ≡ true = all_below-at reads_back 103 digit refl (lower_small digit h) in
    let both : (nat_lt (value_of digit) 16 && eqb (slice_index lower_digits (value_of digit)) digit) ≡ true = rw h at tried in
    let parts = and_parts (nat_lt (value_of digit) 16) (eqb (slice_index lower_digits (value_of digit)) digit) both in
    let small : value_of digit < 16 = ltb-true (value_of digit) 16 parts.0 in
    record {
      value_is = some_value (hex_digit_value digit) small;
      small = small;
      digit_is = eqb-true (slice_index lower_digits (value_of digit)) digit parts.1;
    }

pub lower_written : (value : ℕ) → value < 16 → is_lower_digit (slice_index lower_digits value) ≡ true
lower_written value small = all_below-at (λ (v : ℕ). is_lower_digit (slice_index lower_digits v)) 16 value refl small

-- ---- digits of bytes

pub encoded_lower : (bytes : List ℕ) → AreBytes bytes → list_all is_lower_digit (encode_lower bytes) ≡ true
unfolding encode_with
encoded_lower [] fits = refl
encoded_lower (b ∷ bytes) fits =
    let small : b < 256 = fits 0 in
    and_from (is_lower_digit (slice_index lower_digits (b / 16)))
    (is_lower_digit (slice_index lower_digits (b % 16)) && list_all is_lower_digit (encode_lower bytes)) (lower_written (b / 16) (omega arith))
    (and_from (is_lower_digit (slice_index lower_digits (b % 16))) (list_all is_lower_digit (encode_lower bytes)) (lower_written (b % 16) (omega arith))
    (encoded_lower bytes (λ i. fits (suc i))))

-- digits in pairs are those of the bytes that they decode to
pub record AreRead (i : ℕ) (text : List ℕ) : Type 0 where
  pub bytes : List ℕ
  pub decoded : decode_pairs i text ≡ Ok bytes
  pub spelled : encode_lower bytes ≡ text
  pub fit : AreBytes bytes

pub pairs_read : (i : ℕ) (text : List ℕ) → length text % 2 ≡ 0 → list_all is_lower_digit text ≡ true → AreRead i text
unfolding decode_pairs encode_with
pairs_read i [] even lower = record { bytes = []; decoded = refl; spelled = refl; fit = AreBytes-none }
pairs_read i (a ∷ []) even lower = absurd (omega arith)
pairs_read i (a ∷ b ∷ rest) even lower =
    let parts = and_parts (is_lower_digit a) (is_lower_digit b && list_all is_lower_digit rest) lower in
    let others = and_parts (is_lower_digit b) (list_all is_lower_digit rest) parts.1 in
    let high = lower_read a parts.0 in
    let low = lower_read b others.0 in
    let ih = pairs_read (i + 2) rest (omega arith) others.1 in
    let byte : ℕ = value_of a * 16 + value_of b in
    let high_value = high.value_is in
    let low_value = low.value_is in
    let pair : pair_value a b i ≡ Ok byte = rw (high_value, low_value) refl in
    let high_is : byte / 16 ≡ value_of a = omega (arith, low.small) in
    let low_is : byte % 16 ≡ value_of b = omega (arith, low.small) in
    record {
      bytes = byte ∷ ih.bytes;
      decoded = decode_pairs-ok_pair i a b byte rest pair ∙ ap (cons_byte byte) ih.decoded;
      spelled = ap (λ (d : ℕ). slice_index lower_digits d ∷ slice_index lower_digits (byte % 16) ∷ encode_lower ih.bytes) high_is
          ∙ ap (λ (d : ℕ). d ∷ slice_index lower_digits (byte % 16) ∷ encode_lower ih.bytes) high.digit_is
          ∙ ap (λ (d : ℕ). a ∷ slice_index lower_digits d ∷ encode_lower ih.bytes) low_is
          ∙ ap (λ (d : ℕ). a ∷ d ∷ encode_lower ih.bytes) low.digit_is
          ∙ ap (λ (t : List ℕ). a ∷ b ∷ t) ih.spelled;
      fit = AreBytes-more byte ih.bytes (omega (arith, high.small, low.small)) ih.fit;
    }

-- ---- what decoding answers

ok_told : (a b : List ℕ) (r : Result (List ℕ) FromHexError) → r ≡ Ok a → r ≡ Ok b → a ≡ b
ok_told a b r one two = ap (λ (x : Result (List ℕ) FromHexError). result_unwrap_or x []) (sym one ∙ two)

-- what was decoded of lower case is spelled so
pub decoded_digits : (text bytes : List ℕ) (n : ℕ) → list_all is_lower_digit text ≡ true → decode_sized text n ≡ Ok bytes → AreDigitsOf text bytes
decoded_digits text bytes n lower e =
    let twice = decode_sized-ok text n bytes e in
    let even : length text % 2 ≡ 0 = omega (arith, twice) in
    let half : length text / 2 ≡ n = omega (arith, twice) in
    let read = pairs_read 0 text even lower in
    let same : read.bytes ≡ bytes = ok_told read.bytes bytes (decode_sized text n) (decode_sized-pairs text n even half ∙ read.decoded) e in
    subst (AreDigitsOf text) same (record { text_is = sym read.spelled; are_bytes = read.fit })

-- digits of bytes are in lower case, and are decoded
pub digits_lower : (text bytes : List ℕ) → AreDigitsOf text bytes → list_all is_lower_digit text ≡ true
digits_lower text bytes digits = ap (list_all is_lower_digit) digits.text_is ∙ encoded_lower bytes digits.are_bytes

pub digits_decoded : (text bytes : List ℕ) → AreDigitsOf text bytes → decode_sized text (length text / 2) ≡ Ok bytes
digits_decoded text bytes digits =
    let long : length text ≡ 2 * length bytes = ap length digits.text_is ∙ length-encode_with lower_digits bytes in
    let half : length bytes ≡ length text / 2 = omega (arith, long) in
    ap (λ (t : List ℕ). decode_sized t (length text / 2)) digits.text_is
    ∙ decode_sized-encode_lower bytes (length text / 2) half digits.are_bytes

pub not_lower : (text bytes : List ℕ) → list_all is_lower_digit text ≡ false → AreDigitsOf text bytes → ⊥
not_lower text bytes upper digits = let lower = digits_lower text bytes digits in cc

pub not_decoded : (text bytes : List ℕ) (e : FromHexError) (n : ℕ) → n ≡ length text / 2 → decode_sized text n ≡ Err e → AreDigitsOf text bytes → ⊥
not_decoded text bytes e n half refused digits =
    let read : decode_sized text n ≡ Ok bytes = ap (decode_sized text) half ∙ digits_decoded text bytes digits in
    cc

-- the decoder's answer in its own words
pub decoded_ok : (d : Result (List ℕ) FromHexError) (out : List ℕ) (r : Result (Unit {0}) FromHexError) → r ≡ Ok tt →
    MatchResult d (λ bytes. (r ≡ Ok tt) × (out ≡ bytes)) (λ e. r ≡ Err e) → d ≡ Ok out
decoded_ok (Ok bytes) out r ok value = ap Ok (sym value.1)
decoded_ok (Err e) out r ok value = let both : (Ok tt) ≡ (Err e) = sym ok ∙ value in cc

pub decoded_err : (d : Result (List ℕ) FromHexError) (out : List ℕ) (r : Result (Unit {0}) FromHexError) (f : FromHexError) → r ≡ Err f →
    MatchResult d (λ bytes. (r ≡ Ok tt) × (out ≡ bytes)) (λ e. r ≡ Err e) → d ≡ Err f
decoded_err (Ok bytes) out r f err value = let both : (Err f) ≡ (Ok tt) = sym err ∙ value.0 in cc
decoded_err (Err e) out r f err value = let both : (Err e) ≡ (Err f) = sym value ∙ err in cc

pub digits_size : (text bytes : List ℕ) → AreDigitsOf text bytes → length text ≡ 2 * length bytes
digits_size text bytes digits = ap length digits.text_is ∙ length-encode_with lower_digits bytes

-- ---- pairs of digits, read one after another

encoded_then : (xs ys : List ℕ) → encode_lower (xs ++ ys) ≡ encode_lower xs ++ encode_lower ys
unfolding encode_with
encoded_then [] ys = refl
encoded_then (x ∷ xs) ys =
    ap (λ (t : List ℕ). slice_index lower_digits (x / 16) ∷ slice_index lower_digits (x % 16) ∷ t) (encoded_then xs ys)

-- the digits of the first bytes and of the others
encoded_parts : (n : ℕ) (xs : List ℕ) → encode_lower (take n xs) ++ encode_lower (drop n xs) ≡ encode_lower xs
encoded_parts n xs = sym (encoded_then (take n xs) (drop n xs)) ∙ ap encode_lower (take-append-drop n xs)

pub digits_then : (text new block rest all : List ℕ) (n : ℕ) → new ≡ text ++ block → block ≡ encode_lower (take n rest) →
    text ++ encode_lower rest ≡ all → new ++ encode_lower (drop n rest) ≡ all
digits_then text new block rest all n one is before =
    ap (λ (t : List ℕ). t ++ encode_lower (drop n rest)) (one ∙ ap (λ (b : List ℕ). text ++ b) is)
    ∙ append_assoc text (encode_lower (take n rest)) (encode_lower (drop n rest)) ∙ ap (λ (t : List ℕ). text ++ t) (encoded_parts n rest) ∙ before

encoded_one : (x : ℕ) → encode_lower (x ∷ []) ≡ slice_index lower_digits (x / 16) ∷ slice_index lower_digits (x % 16) ∷ []
unfolding encode_with
encoded_one x = refl

two_more : (text : List ℕ) (i : ℕ) → 2 * i + 1 < length text →
    take (2 * (i + 1)) text ≡ take (2 * i) text ++ (slice_index text (2 * i) ∷ slice_index text (2 * i + 1) ∷ [])
two_more text i within =
    let two : 2 * (i + 1) ≡ 2 * i + 1 + 1 = omega arith in
    ap (λ (n : ℕ). take n text) two ∙ take_more text (2 * i + 1) 0 within
    ∙ ap (λ (t : List ℕ). t ++ slice_index text (2 * i + 1) ∷ []) (take_more text (2 * i) 0 (omega arith))
    ∙ append_assoc (take (2 * i) text) (slice_index text (2 * i) ∷ []) (slice_index text (2 * i + 1) ∷ [])

-- no digit yet
pub no_digits : (text bytes : List ℕ) → AreDigitsOf (take 0 text) (take 0 bytes)
unfolding encode_with
no_digits text bytes = record { text_is = refl; are_bytes = AreBytes-none }

-- a pair of digits, and the byte that they spell
pub record IsPairAt (text bytes : List ℕ) (i : ℕ) : Type 0 where
  pub high : ℕ
  pub low : ℕ
  pub high_small : high < 16
  pub low_small : low < 16
  pub high_is : slice_index lower_digits high ≡ slice_index text (2 * i)
  pub low_is : slice_index lower_digits low ≡ slice_index text (2 * i + 1)
  pub value_is : slice_index bytes i ≡ high * 16 + low

-- one pair more
pub pair_read : (text bytes : List ℕ) (i : ℕ) → 2 * i + 1 < length text → i < length bytes → IsPairAt text bytes i →
    AreDigitsOf (take (2 * i) text) (take i bytes) → AreDigitsOf (take (2 * (i + 1)) text) (take (i + 1) bytes)
pair_read text bytes i within room pair before =
    let value = slice_index bytes i in
    let one = encoded_one value in
    let high_told : value / 16 ≡ pair.high = omega (arith, pair.value_is, pair.high_small, pair.low_small) in
    let low_told : value % 16 ≡ pair.low = omega (arith, pair.value_is, pair.high_small, pair.low_small) in
    let spelled : slice_index text (2 * i) ∷ slice_index text (2 * i + 1) ∷ [] ≡ encode_lower (value ∷ []) =
    sym (one ∙ ap (λ (d : ℕ). slice_index lower_digits d ∷ slice_index lower_digits (value % 16) ∷ []) high_told
    ∙ ap (λ (d : ℕ). slice_index lower_digits pair.high ∷ slice_index lower_digits d ∷ []) low_told
    ∙ ap (λ (d : ℕ). d ∷ slice_index lower_digits pair.low ∷ []) pair.high_is
    ∙ ap (λ (d : ℕ). slice_index text (2 * i) ∷ d ∷ []) pair.low_is) in
    let read : AreDigitsOf (take (2 * (i + 1)) text) (take i bytes ++ value ∷ []) = record {
      text_is = two_more text i within ∙ ap (λ (t : List ℕ). take (2 * i) text ++ t) spelled
          ∙ ap (λ (t : List ℕ). t ++ encode_lower (value ∷ [])) before.text_is
          ∙ sym (encoded_then (take i bytes) (value ∷ []));
      are_bytes = AreBytes-append (take i bytes) (value ∷ []) before.are_bytes
          (AreBytes-more value [] (omega (arith, pair.value_is, pair.high_small, pair.low_small)) AreBytes-none);
    } in
    subst (AreDigitsOf (take (2 * (i + 1)) text)) (sym (take_more bytes i 0 room)) read

-- several pairs more
pub pairs_more : (text bytes : List ℕ) (i n : ℕ) → 2 * (i + n) ≤ length text → i + n ≤ length bytes → ((k : ℕ) → k < n → IsPairAt text bytes (i + k)) →
    AreDigitsOf (take (2 * i) text) (take i bytes) → AreDigitsOf (take (2 * (i + n)) text) (take (i + n) bytes)
pairs_more text bytes i zero within room pairs before =
    let same : i + 0 ≡ i = omega arith in
    subst (λ (m : ℕ). AreDigitsOf (take (2 * m) text) (take m bytes)) (sym same) before
pairs_more text bytes i (suc n) within room pairs before =
    let same : i + n + 1 ≡ i + suc n = omega arith in
    subst (λ (m : ℕ). AreDigitsOf (take (2 * m) text) (take m bytes)) same
    (pair_read text bytes (i + n) (omega arith) (omega arith) (pairs n (omega arith))
    (pairs_more text bytes i n (omega arith) (omega arith) (λ k lt. pairs k (omega arith)) before))

-- fewer pairs
AreBytes-take : (n : ℕ) (bytes : List ℕ) → AreBytes bytes → AreBytes (take n bytes)
AreBytes-take zero bytes fit = AreBytes-none
AreBytes-take (suc n) [] fit = AreBytes-none
AreBytes-take (suc n) (b ∷ bytes) fit = AreBytes-more b (take n bytes) (fit 0) (AreBytes-take n bytes (λ i. fit (suc i)))

encoded_front : (n : ℕ) (xs : List ℕ) → take (2 * n) (encode_lower xs) ≡ encode_lower (take n xs)
unfolding encode_with
encoded_front zero xs = refl
encoded_front (suc n) [] =
    let two : 2 * suc n ≡ suc (suc (2 * n)) = omega arith in
    ap (λ (k : ℕ). take k (encode_lower [])) two
encoded_front (suc n) (x ∷ xs) =
    let two : 2 * suc n ≡ suc (suc (2 * n)) = omega arith in
    ap (λ (k : ℕ). take k (encode_lower (x ∷ xs))) two
    ∙ ap (λ (t : List ℕ). slice_index lower_digits (x / 16) ∷ slice_index lower_digits (x % 16) ∷ t) (encoded_front n xs)

pub fewer_pairs : (text bytes : List ℕ) (i n : ℕ) → n ≤ i → AreDigitsOf (take (2 * i) text) (take i bytes) → AreDigitsOf (take (2 * n) text) (take n bytes)
fewer_pairs text bytes i n fewer read = record {
  text_is = sym (take-take (2 * n) (2 * i) text (omega (arith, fewer))) ∙ ap (take (2 * n)) read.text_is ∙ encoded_front n (take i bytes)
      ∙ ap encode_lower (take-take n i bytes fewer);
  are_bytes = subst AreBytes (take-take n i bytes fewer) (AreBytes-take n (take i bytes) read.are_bytes);
}

-- one pair more
pub pair_more : (text bytes : List ℕ) (i high low value : ℕ) → 2 * i + 1 < length text → i < length bytes → high < 16 → low < 16 →
    slice_index lower_digits high ≡ slice_index text (2 * i) → slice_index lower_digits low ≡ slice_index text (2 * i + 1) → value ≡ high * 16 + low →
    AreDigitsOf (take (2 * i) text) (take i bytes) → AreDigitsOf (take (2 * (i + 1)) text) (take (i + 1) (slice_set bytes i value))
pair_more text bytes i high low value within room high_small low_small high_is low_is value_is before =
    let one = encoded_one value in
    let high_told : value / 16 ≡ high = omega arith in
    let low_told : value % 16 ≡ low = omega arith in
    let pair : slice_index text (2 * i) ∷ slice_index text (2 * i + 1) ∷ [] ≡ encode_lower (value ∷ []) =
    sym (one ∙ ap (λ (d : ℕ). slice_index lower_digits d ∷ slice_index lower_digits (value % 16) ∷ []) high_told
    ∙ ap (λ (d : ℕ). slice_index lower_digits high ∷ slice_index lower_digits d ∷ []) low_told
    ∙ ap (λ (d : ℕ). d ∷ slice_index lower_digits low ∷ []) high_is
    ∙ ap (λ (d : ℕ). slice_index text (2 * i) ∷ d ∷ []) low_is) in
    let read : AreDigitsOf (take (2 * (i + 1)) text) (take i bytes ++ value ∷ []) = record {
      text_is = two_more text i within ∙ ap (λ (t : List ℕ). take (2 * i) text ++ t) pair
          ∙ ap (λ (t : List ℕ). t ++ encode_lower (value ∷ [])) before.text_is
          ∙ sym (encoded_then (take i bytes) (value ∷ []));
      are_bytes = AreBytes-append (take i bytes) (value ∷ []) before.are_bytes (AreBytes-more value [] (omega arith) AreBytes-none);
    } in
    subst (AreDigitsOf (take (2 * (i + 1)) text)) (sym (take_more_set bytes i value room)) read

-- all pairs
pub pairs_done : (text bytes : List ℕ) (i : ℕ) → length text ≡ 2 * length bytes → length bytes ≤ i → AreDigitsOf (take (2 * i) text) (take i bytes) →
    AreDigitsOf text bytes
pairs_done text bytes i twice past read =
    subst (AreDigitsOf text) (take_all i bytes past)
    (subst (λ (t : List ℕ). AreDigitsOf t (take i bytes)) (take_all (2 * i) text (omega arith)) read)

pub digit_at : (text : List ℕ) (i : ℕ) → i < length text → list_all is_lower_digit text ≡ true → is_lower_digit (slice_index text i) ≡ true
digit_at [] i within lower = absurd (omega arith)
digit_at (x ∷ xs) zero within lower = (and_parts (is_lower_digit x) (list_all is_lower_digit xs) lower).0
digit_at (x ∷ xs) (suc i) within lower = digit_at xs i (omega arith) (and_parts (is_lower_digit x) (list_all is_lower_digit xs) lower).1

-- an odd number of digits is that of no bytes
pub odd_digits : (text bytes : List ℕ) → (length text % 2 ≡ 0 → ⊥) → AreDigitsOf text bytes → ⊥
odd_digits text bytes odd digits =
    let size : length text ≡ 2 * length bytes = ap length digits.text_is ∙ length-encode_with lower_digits bytes in
    odd (omega (arith, size))
