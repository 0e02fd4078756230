-- The words among the pieces of a line, the first of them cut off.
use Rattle.std.proofs.Common.{◌⊎◌, inl, inr, subst, ◌≡◌, ℕ, zero, suc, ◌+◌, ◌<◌, ◌≤◌, Bool, true, false, cond, List, [], ◌∷◌, length, get_or, take, drop, refl}
use Rattle.std.proofs.Common.{sym, ◌∙◌, ap, arith}
use Rattle.std.specs.List.{prefix_len, slice_split}
use Rattle.std.proofs.lemmas.Bool.{cases_lt}
use Rattle.std.proofs.lemmas.List.{take_all, drop_all, nil_from_length, get_or-drop, drop-drop, length-drop, length-take}
use Rattle.scenario_reader.specs.Words.{Word, with_piece, words_from, is_space}
use Rattle.scenario_reader.proofs.Cuts.{NoneBelow, slice_split-cut, slice_split-last}

abbrev spaces : List ℕ → ℕ
spaces text = prefix_len is_space text

-- a space at the front
after_space : (place byte : ℕ) (text : List ℕ) → is_space byte ≡ true →
    words_from place (slice_split is_space (byte ∷ text)) ≡ words_from (place + 1) (slice_split is_space text)
after_space place byte text space = rw space refl

-- the spaces at the front passed over
pub words_from-spaces : (place : ℕ) (text : List ℕ) →
    words_from place (slice_split is_space text) ≡ words_from (place + spaces text) (slice_split is_space (drop (spaces text) text))
words_from-spaces place [] = refl
words_from-spaces place (byte ∷ text) = cases (is_space byte) refl (words_from-spaces (place + 1) text) where
  cases : (space : Bool) → is_space byte ≡ space →
      words_from (place + 1) (slice_split is_space text) ≡ words_from (place + 1 + spaces text) (slice_split is_space (drop (spaces text) text)) →
      words_from place (slice_split is_space (byte ∷ text)) ≡ words_from (place + cond space (1 + spaces text) 0)
      (slice_split is_space (drop (cond space (1 + spaces text) 0) (byte ∷ text)))
  cases true is later =
      let sum : place + (1 + spaces text) ≡ place + 1 + spaces text = omega arith in
      let next : 1 + spaces text ≡ suc (spaces text) = omega arith in
      let rest : drop (1 + spaces text) (byte ∷ text) ≡ drop (spaces text) text = rw next refl in
      rw (rest, sum) (after_space place byte text is ∙ later)
  cases false is later =
      let none : place ≡ place + 0 = omega arith in
      ap (λ (p : ℕ). words_from p (slice_split is_space (byte ∷ text))) none

pub spaces-within : (text : List ℕ) → spaces text ≤ length text
spaces-within [] = omega arith
spaces-within (byte ∷ text) = cases (is_space byte) (spaces-within text) where
  cases : (space : Bool) → spaces text ≤ length text → cond space (1 + spaces text) 0 ≤ length (byte ∷ text)
  cases true later = omega (arith, later)
  cases false later = omega arith

-- behind them stands no space
pub spaces-end : (text : List ℕ) → spaces text < length text → is_space (get_or text (spaces text) 0) ≡ false
spaces-end [] within = absurd (omega arith)
spaces-end (byte ∷ text) within = cases (is_space byte) refl (spaces-end text) within where
  cases : (space : Bool) → is_space byte ≡ space → (spaces text < length text → is_space (get_or text (spaces text) 0) ≡ false) →
      cond space (1 + spaces text) 0 < length (byte ∷ text) → is_space (get_or (byte ∷ text) (cond space (1 + spaces text) 0) 0) ≡ false
  cases true is later within =
      let next : 1 + spaces text ≡ suc (spaces text) = omega arith in rw next (later (omega (arith, within)))
  cases false is later within = is

-- a piece that is not empty is a word
with_piece-some : (place : ℕ) (piece : List ℕ) (words : List Word) → 0 < length piece →
    with_piece place piece words ≡ record { place = place; text = piece } ∷ words
with_piece-some place [] words some = absurd (omega arith)
with_piece-some place (byte ∷ piece) words some = refl

-- a word before a space
word-cut : (place : ℕ) (text : List ℕ) (k : ℕ) → 0 < k → k < length text → NoneBelow is_space text k → is_space (get_or text k 0) ≡ true →
    words_from place (slice_split is_space text) ≡ record { place = place; text = take k text } ∷ words_from (place + length (take k text))
    (slice_split is_space (drop k text))
word-cut place text k some within none ends =
    let size : length (take k text) ≡ k = omega (arith, length-take k text) in
    let more = slice_split is_space (drop (suc k) text) in
    let cut : slice_split is_space text ≡ take k text ∷ more = slice_split-cut is_space text k within none ends in
    let none : k + 0 ≡ k = omega arith in
    let at : is_space (get_or (drop k text) 0 0) ≡ true = rw (get_or-drop k text 0 0, none) ends in
    let left : 0 < length (drop k text) = omega (arith, length-drop k text) in
    let more_one : k + 1 ≡ suc k = omega arith in
    let one : drop 1 (drop k text) ≡ drop (suc k) text = drop-drop 1 k text ∙ ap (λ (n : ℕ). drop n text) more_one in
    let behind : slice_split is_space (drop k text) ≡ [] ∷ more =
    slice_split-cut is_space (drop k text) 0 left (record { fails = λ j before. absurd (omega arith) }) at
    ∙ ap (λ (rest : List ℕ). [] ∷ slice_split is_space rest) one in
    let sum : place + (length (take k text) + 1) ≡ place + length (take k text) + 1 = omega arith in
    ap (words_from place) cut
    ∙ with_piece-some place (take k text) _ (omega (arith, size))
    ∙ ap (λ (words : List Word). record { place = place; text = take k text } ∷ words)
    (ap (λ (p : ℕ). words_from p more) sum ∙ sym (ap (words_from (place + length (take k text))) behind))

-- a word that ends where the text does
word-last : (place : ℕ) (text : List ℕ) (k : ℕ) → 0 < k → k ≡ length text → NoneBelow is_space text k →
    words_from place (slice_split is_space text) ≡ record { place = place; text = take k text } ∷ words_from (place + length (take k text))
    (slice_split is_space (drop k text))
word-last place text k some whole none =
    let last = slice_split-last is_space text (subst (NoneBelow is_space text) whole none) in
    rw (take_all k text (omega (arith, whole)), drop_all k text (omega (arith, whole)), last) (with_piece-some place text [] (omega (arith, whole)))

-- a word up to place k, where a space or the end stands
pub words_from-word : (place : ℕ) (text : List ℕ) (k : ℕ) → 0 < k → k ≤ length text → NoneBelow is_space text k →
    (k < length text → is_space (get_or text k 0) ≡ true) →
    words_from place (slice_split is_space text) ≡ record { place = place; text = take k text } ∷ words_from (place + length (take k text))
    (slice_split is_space (drop k text))
words_from-word place text k some within none ends = by_end (cases_lt k (length text)) where
  by_end : (k < length text) ⊎ (length text ≤ k) →
      words_from place (slice_split is_space text) ≡ record { place = place; text = take k text } ∷ words_from (place + length (take k text))
      (slice_split is_space (drop k text))
  by_end (inl before) = word-cut place text k some before none (ends before)
  by_end (inr behind) = word-last place text k some (omega (arith, within, behind)) none

-- a text of spaces alone has no word
pub no_word : (text : List ℕ) (k : ℕ) → k ≡ spaces text → length (drop k text) ≡ 0 → (place : ℕ) → words_from place (slice_split is_space text) ≡ []
no_word text k is none place =
    let empty : drop (spaces text) text ≡ [] = nil_from_length _ (subst (λ (n : ℕ). length (drop n text) ≡ 0) is none) in
    words_from-spaces place text ∙ ap (λ (rest : List ℕ). words_from (place + spaces text) (slice_split is_space rest)) empty

-- what stands behind the spaces at the front has a byte before the next space
some_byte : (text : List ℕ) (k n : ℕ) → k ≡ spaces text → 0 < length (drop k text) → (n < length (drop k text) → is_space (get_or (drop k text) n 0) ≡ true) →
    0 < n
some_byte text k (suc n) is some ends = omega arith
some_byte text k zero is some ends =
    let none : k + 0 ≡ k = omega arith in
    let space : is_space (get_or text k 0) ≡ true = rw (get_or-drop k text 0 0, none) at (ends some) in
    let other : is_space (get_or text k 0) ≡ false = rw is (spaces-end text (omega (arith, some, length-drop k text, is))) in
    let both : true ≡ false = sym space ∙ other in
    cc

-- the first word: n bytes behind k spaces
pub first_word : (text : List ℕ) (k n : ℕ) → k ≡ spaces text → 0 < length (drop k text) → n ≤ length (drop k text) →
    ((j : ℕ) → j < n → is_space (get_or (drop k text) j 0) ≡ false) → (n < length (drop k text) → is_space (get_or (drop k text) n 0) ≡ true) → (place : ℕ) →
    words_from place (slice_split is_space text) ≡ record { place = place + k; text = take n (drop k text) } ∷ words_from
    (place + k + length (take n (drop k text))) (slice_split is_space (drop n (drop k text)))
first_word text k n is some within before ends place =
    let passed : words_from place (slice_split is_space text) ≡ words_from (place + k) (slice_split is_space (drop k text)) =
    rw is (words_from-spaces place text) in
    passed ∙ words_from-word (place + k) (drop k text) n (some_byte text k n is some ends) within (record { fails = before }) ends

pub first_word-some : (text : List ℕ) (k n : ℕ) → k ≡ spaces text → 0 < length (drop k text) → n ≤ length (drop k text) →
    (n < length (drop k text) → is_space (get_or (drop k text) n 0) ≡ true) → 0 < length (take n (drop k text))
first_word-some text k n is some within ends =
    omega (arith, length-take n (drop k text), some_byte text k n is some ends, within)

pub first_word-sizes : (text : List ℕ) (k n : ℕ) → k ≤ length text → n ≤ length (drop k text) →
    k + length (take n (drop k text)) + length (drop n (drop k text)) ≡ length text
first_word-sizes text k n inside within =
    omega (arith, length-take n (drop k text), length-drop n (drop k text), length-drop k text, within, inside)
