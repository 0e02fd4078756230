-- The first digits of an identifier are a name.
use Rattle.std.proofs.Common.{◌≡◌, ℕ, zero, suc, ◌<◌, true, cond, ◌&&◌, List, [], ◌∷◌, length, take, refl}
use Rattle.std.proofs.Common.{arith, length-take}
use Rattle.std.specs.Prelude.{nat_le}
use Rattle.std.specs.List.{list_all}
use Rattle.std.specs.Int.{w128, to_be_bytes}
use Rattle.std.proofs.lemmas.Bool.{and_from, and_parts, le-leb}
use Rattle.std.proofs.lemmas.Bool.Decides.{nat_tests}
use Rattle.hex.specs.Hex.{lower_digits}
use Rattle.hex.proofs.HexLemmas.{length-encode_with}
use Rattle.ring_math.specs.Texts.{text_of}
use Rattle.scenario_reader.specs.declared.limits.TheConstants.{MOST_LETTERS}
use Rattle.scenario_reader.specs.Spelling.{is_name, is_name_byte}
use Rattle.svg_text.specs.Labels.{short_of}
use Rattle.trace_text.specs.Digits.{is_lower_digit}
use Rattle.trace_text.proofs.Bytes.{id_bytes}
use Rattle.trace_text.proofs.Digits.{encoded_lower}
use Rattle.text_writer.proofs.Tables.{all_below-at}

digit_small : (digit : ℕ) → is_lower_digit digit ≡ true → digit < 103
digit_small digit h = grind (arith, nat_tests, h)

digit_named : (digit : ℕ) → is_lower_digit digit ≡ true → is_name_byte digit ≡ true
unfolding is_name_byte
digit_named digit h =
    let tried : cond (is_lower_digit digit) (is_name_byte digit) true ≡ true =
    all_below-at (λ (d : ℕ). cond (is_lower_digit d) (is_name_byte d) true) 103 digit refl (digit_small digit h) in rw h at tried

front_named : (n : ℕ) (text : List ℕ) → list_all is_lower_digit text ≡ true → list_all is_name_byte (take n text) ≡ true
front_named zero text h = refl
front_named (suc n) [] h = refl
front_named (suc n) (c ∷ cs) h =
    let parts = and_parts (is_lower_digit c) (list_all is_lower_digit cs) h in
    and_from (is_name_byte c) (list_all is_name_byte (take n cs)) (digit_named c parts.0) (front_named n cs parts.1)

id_long : (id : ℕ) → length (text_of id) ≡ 32
id_long id = let bytes : length (to_be_bytes w128 id) ≡ 16 = refl in omega (arith, length-encode_with lower_digits (to_be_bytes w128 id), bytes)

pub short-name : (id : ℕ) → is_name (short_of id) ≡ true
short-name id =
    let size : length (short_of id) ≡ 8 = omega (arith, length-take 8 (text_of id), id_long id) in
    and_from (nat_le 1 (length (short_of id)) && nat_le (length (short_of id)) MOST_LETTERS) (list_all is_name_byte (short_of id))
    (and_from (nat_le 1 (length (short_of id))) (nat_le (length (short_of id)) MOST_LETTERS) (le-leb 1 (length (short_of id)) (omega arith))
    (le-leb (length (short_of id)) MOST_LETTERS (omega arith)))
    (front_named 8 (text_of id) (encoded_lower (to_be_bytes w128 id) (id_bytes id)))
