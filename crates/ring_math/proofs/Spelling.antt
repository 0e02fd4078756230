-- Identifiers as bytes and as hexadecimal texts: what a text spells is the number of its bytes, and reading gives back what was written.
use Rattle.std.proofs.Common.{◌≡◌, ℕ, suc, zero, ◌+◌, ◌*◌, ◌^◌, ◌%◌, ◌/◌, ◌-◌, ◌<◌, ◌≢◌, true, false, not, List, [], ◌∷◌, length, take, slice_index}
use Rattle.std.proofs.Common.{Option, Some, None, Result, Ok, Err, is_some, lit<, refl, sym, ◌∙◌, ap, subst, get_or-take, length-take, arith}
use Rattle.std.specs.Prelude.{unwrap_or}
use Rattle.std.specs.Int.{w128, to_be_bytes, from_be_bytes, bytes_high_first, byte_at, byte_worth, sum_through}
use Rattle.std.specs.List.{AllPass, position_or_len}
use Rattle.std.specs.Result.{result_unwrap_or}
use Rattle.std.proofs.lemmas.List.Sums.{position_or_len_is}
use Rattle.std.proofs.Math.Nat.{pow-suc, div-one, one-le-pow}
use Rattle.std.proofs.Math.Arith.{mod-mul}
use Rattle.std.proofs.lemmas.Bool.Decides.{nat_tests}
use Rattle.std.proofs.lemmas.List.Elements.{All-head, All-tail}
use Rattle.hex.specs.Hex.{IsBytes, decode_pairs, decode_sized, digit_or_error, hex_digit_value, is_hex_digit, lower_digits, pair_value}
use Rattle.hex.specs.declared.error.FromHexError.{FromHexError}
use Rattle.hex.specs.declared.error.FromHexError.TheVariants.{InvalidHexCharacter}
use Rattle.hex.proofs.HexLemmas.{decode_pairs-ok, decode_pairs-err, decode_pairs-encode_with, IsDigits-lower_digits, length-encode_with}
use Rattle.hex.proofs.Pairs.{cons_byte, decode_pairs-ok_pair, decode_sized-pairs}
use Rattle.ring_math.specs.Keys.{number_of, number_from}
use Rattle.ring_math.specs.Texts.{text_of, id_read, spelled_from, bad_place}
use Rattle.ring_math.specs.declared.text.IdFault.TheVariants.{Digit, Length}

-- ---- bytes, the most significant first

sum_through-first : (f : ℕ → ℕ) (n : ℕ) → sum_through f (suc n) ≡ f 0 + sum_through (λ i. f (suc i)) n
sum_through-first f zero = refl
sum_through-first f (suc n) = let e = sum_through-first f n in omega arith

sum_through-same : (f g : ℕ → ℕ) (n : ℕ) → ((i : ℕ) → f i ≡ g i) → sum_through f n ≡ sum_through g n
sum_through-same f g zero h = h 0
sum_through-same f g (suc n) h = let e = sum_through-same f g n h in let top = h (suc n) in omega arith

horner : (before b p q s t : ℕ) → q ≡ p * 256 → t ≡ b * p + s → (256 * before + b) * p + s ≡ before * q + t
horner before b p q s t e f = rw (e, f) (omega arith)

-- places by what their bytes are worth: Horner's rule
number_from-sum : (n before : ℕ) (bytes : List ℕ) → length bytes ≡ suc n →
    number_from before bytes ≡ before * 256 ^ suc n + sum_through (λ i. byte_worth (n - i) (slice_index bytes i)) n
number_from-sum n before [] e = absurd (omega arith)
number_from-sum zero before (b ∷ []) e = omega arith
number_from-sum zero before (b ∷ c ∷ rest) e = absurd (omega arith)
number_from-sum (suc n) before (b ∷ rest) e =
    let ih = number_from-sum n (256 * before + b) rest (omega arith) in
    let f : ℕ → ℕ = λ i. byte_worth (suc n - i) (slice_index (b ∷ rest) i) in
    let g : ℕ → ℕ = λ i. byte_worth (n - i) (slice_index rest i) in
    let first = sum_through-first f n in
    let behind = sum_through-same (λ i. f (suc i)) g n (λ i. let less : suc n - suc i ≡ n - i = omega arith in
    ap (λ k. byte_worth k (slice_index rest i)) less) in
    let power : 256 ^ suc (suc n) ≡ 256 ^ suc n * 256 = pow-suc 256 (suc n) in
    let whole : suc n - 0 ≡ suc n = omega arith in
    let top : f 0 ≡ b * 256 ^ suc n = ap (λ k. byte_worth k b) whole in
    ih ∙ horner before b (256 ^ suc n) (256 ^ suc (suc n)) (sum_through g n) (sum_through f (suc n)) power (omega (arith, first, top, behind))

pub number_of-be_bytes : (bytes : List ℕ) → length bytes ≡ 16 → from_be_bytes w128 bytes ≡ number_of bytes
number_of-be_bytes bytes e = let h = number_from-sum 15 0 bytes e in omega arith

byte_at-is : (k n : ℕ) → byte_at k n ≡ n / 256 ^ k % 256
byte_at-is zero n = rw div-one refl
byte_at-is (suc k) n = refl

number_from-bytes : (k before n : ℕ) → number_from before (bytes_high_first k n) ≡ before * 256 ^ k + n % 256 ^ k
number_from-bytes zero before n = omega arith
number_from-bytes (suc k) before n =
    let ih = number_from-bytes k (256 * before + byte_at k n) n in
    let byte = byte_at-is k n in
    let power : 256 ^ suc k ≡ 256 ^ k * 256 = pow-suc 256 k in
    let turned : 256 ^ suc k ≡ 256 * 256 ^ k = omega arith in
    let split : n % (256 * 256 ^ k) ≡ (n / 256 ^ k % 256) * 256 ^ k + n % 256 ^ k = mod-mul n (lit< tt) (one-le-pow k 256 (lit< tt)) in
    ih ∙ rw (byte, turned, split) (omega arith)

pub number_of-to_be_bytes : (id : ℕ) → id < 2 ^ 128 → number_of (to_be_bytes w128 id) ≡ id
number_of-to_be_bytes id h = number_from-bytes 16 0 id ∙ omega arith

bytes_high_first-bytes : (k n : ℕ) → IsBytes (bytes_high_first k n)
bytes_high_first-bytes zero n i = omega arith
bytes_high_first-bytes (suc k) n zero = let e = byte_at-is k n in omega arith
bytes_high_first-bytes (suc k) n (suc i) = bytes_high_first-bytes k n i

length-bytes_high_first : (k n : ℕ) → length (bytes_high_first k n) ≡ k
length-bytes_high_first zero n = refl
length-bytes_high_first (suc k) n = ap suc (length-bytes_high_first k n)

-- ---- texts

abbrev IsDigit : ℕ → Type 0
IsDigit c = is_hex_digit c ≡ true

digit_some : (c i : ℕ) (o : Option ℕ) → is_some o ≡ true → (v : ℕ) × (unwrap_or o 0 ≡ v) × (digit_or_error c i o ≡ Ok v)
digit_some c i (Some v) h = (v, refl, refl)
digit_some c i None h = cc h

-- digits decode to bytes, and spell the number of those
read_digits : (i before : ℕ) (text : List ℕ) → length text % 2 ≡ 0 → AllPass is_hex_digit text →
    (bytes : List ℕ) × (decode_pairs i text ≡ Ok bytes) × (spelled_from before text ≡ number_from before bytes)
unfolding decode_pairs
read_digits i before [] even h = ([], refl, refl)
read_digits i before (a ∷ []) even h = absurd (omega arith)
read_digits i before (a ∷ b ∷ rest) even h =
    let tail = All-tail IsDigit a (b ∷ rest) h in
    let da = digit_some a i (hex_digit_value a) (All-head IsDigit a (b ∷ rest) h) in
    let db = digit_some b (i + 1) (hex_digit_value b) (All-head IsDigit b rest tail) in
    let byte : ℕ = da.0 * 16 + db.0 in
    let ih = read_digits (i + 2) (256 * before + byte) rest (omega arith) (All-tail IsDigit b rest tail) in
    let pair : pair_value a b i ≡ Ok byte = rw (da.2, db.2) refl in
    let high = da.1 in
    let low = db.1 in
    let both : 16 * (16 * before + unwrap_or (hex_digit_value a) 0) + unwrap_or (hex_digit_value b) 0 ≡ 256 * before + byte = omega (arith, high, low) in
    (byte ∷ ih.0, decode_pairs-ok_pair i a b _ rest pair ∙ ap (cons_byte byte) ih.1, ap (λ n. spelled_from n rest) both ∙ ih.2)

bad_place-none : (text : List ℕ) → AllPass is_hex_digit text → bad_place text ≡ None
bad_place-none text h =
    let all : position_or_len (λ c. not (is_hex_digit c)) text ≡ length text =
    position_or_len_is (λ c. not (is_hex_digit c)) text (length text) 0 (omega arith) (λ k lt. ap not (h k 0 lt)) (λ lt. absurd (omega arith)) in
    grind (arith, nat_tests, all)

bad_place-some : (text : List ℕ) (k : ℕ) → k < length text → is_hex_digit (slice_index text k) ≡ false → AllPass is_hex_digit (take k text) →
    bad_place text ≡ Some k
bad_place-some text k lt bad h =
    let front : (j : ℕ) → j < k → is_hex_digit (slice_index text j) ≡ true =
    λ j before. subst IsDigit (get_or-take k text j 0 before) (h j 0 (omega (arith, length-take k text))) in
    let at : position_or_len (λ c. not (is_hex_digit c)) text ≡ k =
    position_or_len_is (λ c. not (is_hex_digit c)) text k 0 (omega arith) (λ j before. ap not (front j before)) (λ _. ap not bad) in
    grind (arith, nat_tests, at)

even_32 : (n : ℕ) → n ≡ 32 → n % 2 ≡ 0
even_32 n e = omega arith

half_32 : (n : ℕ) → n ≡ 32 → n / 2 ≡ 16
half_32 n e = omega arith

-- by pairs, what is asked of 32 bytes
sized_pairs : (text : List ℕ) → length text ≡ 32 → decode_sized text 16 ≡ decode_pairs 0 text
sized_pairs text e = decode_sized-pairs text 16 (even_32 (length text) e) (half_32 (length text) e)

read_ok : (text : List ℕ) (n : ℕ) → length text ≡ 32 → bad_place text ≡ None → spelled_from 0 text ≡ n → id_read text ≡ Ok n
read_ok text n e none spelled = grind (arith, nat_tests, e, none, spelled)

read_bad : (text : List ℕ) (k : ℕ) → length text ≡ 32 → bad_place text ≡ Some k → id_read text ≡ Err (Digit k)
read_bad text k e some = grind (arith, nat_tests, e, some)

spelled_decoded : (text bytes : List ℕ) → length text ≡ 32 → decode_pairs 0 text ≡ Ok bytes → spelled_from 0 text ≡ number_of bytes
spelled_decoded text bytes e h =
    let ok = decode_pairs-ok 0 text bytes h in
    let read = read_digits 0 0 text (even_32 (length text) e) ok.0 in
    let same : read.0 ≡ bytes = ap (λ (r : Result (List ℕ) FromHexError). result_unwrap_or r []) (sym read.1 ∙ h) in
    read.2 ∙ ap number_of same

-- what 32 digits decode to is the identifier that they spell
pub id_read-decoded : (text bytes : List ℕ) → length text ≡ 32 → decode_sized text 16 ≡ Ok bytes → id_read text ≡ Ok (from_be_bytes w128 bytes)
id_read-decoded text bytes e h =
    let pairs : decode_pairs 0 text ≡ Ok bytes = sym (sized_pairs text e) ∙ h in
    let ok = decode_pairs-ok 0 text bytes pairs in
    let twice = ok.1 in
    read_ok text (from_be_bytes w128 bytes) e (bad_place-none text ok.0) (spelled_decoded text bytes e pairs ∙ sym (number_of-be_bytes bytes (omega arith)))

-- and what 32 bytes are refused for is the first that is no digit
pub id_read-refused : (text : List ℕ) (fault : FromHexError) → length text ≡ 32 → decode_sized text 16 ≡ Err fault →
    (k : ℕ) × (fault ≡ InvalidHexCharacter (slice_index text k) k) × (id_read text ≡ Err (Digit k))
id_read-refused text fault e h =
    let bad = decode_pairs-err 0 text fault (even_32 (length text) e) (sym (sized_pairs text e) ∙ h) in
    let place : 0 + bad.0 ≡ bad.0 = omega arith in
    (bad.0, bad.1 ∙ ap (InvalidHexCharacter (slice_index text bad.0)) place, read_bad text bad.0 e (bad_place-some text bad.0 bad.2 bad.3 bad.4))

-- a text of another length is refused for that
pub id_read-length : (text : List ℕ) → length text ≢ 32 → id_read text ≡ Err (Length (length text))
id_read-length text ne = grind (arith, nat_tests, ne)

-- reading gives back what was written
pub id_read-text_of : (id : ℕ) → id < 2 ^ 128 → id_read (text_of id) ≡ Ok id
id_read-text_of id h =
    let bytes : List ℕ = to_be_bytes w128 id in
    let pairs : decode_pairs 0 (text_of id) ≡ Ok bytes = decode_pairs-encode_with lower_digits IsDigits-lower_digits 0 bytes (bytes_high_first-bytes 16 id) in
    let len : length (text_of id) ≡ 32 = length-encode_with lower_digits bytes ∙ ap (λ n. 2 * n) (length-bytes_high_first 16 id) in
    read_ok (text_of id) id len (bad_place-none (text_of id) (decode_pairs-ok 0 (text_of id) bytes pairs).0)
    (spelled_decoded (text_of id) bytes len pairs ∙ number_of-to_be_bytes id h)
