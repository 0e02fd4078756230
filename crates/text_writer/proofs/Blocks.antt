-- Bytes that are written in hexadecimal block by block.
use Rattle.std.proofs.Common.{◌≡◌, ℕ, ◌+◌, ◌*◌, ◌-◌, ◌/◌, ◌%◌, ◌≤◌, List, [], ◌∷◌, ◌++◌, length, take, drop, slice_index}
use Rattle.std.proofs.Common.{refl, sym, ap, subst, ◌∙◌, arith, append_assoc}
use Rattle.std.proofs.lemmas.List.{drop-drop, length-take-le, length-drop, take-append-drop, take_all}
use Rattle.std.proofs.lemmas.Slice.{take-put_mid}
use borrow.Rule.Slice.PartMut.{put_mid}
use Rattle.hex.specs.Hex.{encode_lower, encode_with, lower_digits}
use Rattle.hex.proofs.HexLemmas.{length-encode_with}

encode_append : (t xs ys : List ℕ) → encode_with t (xs ++ ys) ≡ encode_with t xs ++ encode_with t ys
unfolding encode_with
encode_append t [] ys = refl
encode_append t (x ∷ xs) ys =
    ap (λ (rest : List ℕ). slice_index t (x / 16) ∷ slice_index t (x % 16) ∷ rest) (encode_append t xs ys)

-- all that is left, as it is read
left_is : (bytes : List ℕ) (place : ℕ) → take (length bytes - place) (drop place bytes) ≡ drop place bytes
left_is bytes place = take_all (length bytes - place) (drop place bytes) (let l = length-drop place bytes in omega arith)

-- a block more is written
pub block_written : (bytes digits block now : List ℕ) (place n width : ℕ) → n ≤ length (take (length bytes - place) (drop place bytes)) →
    block ≡ take n (take (length bytes - place) (drop place bytes)) →
    now ≡ encode_lower block → place ≤ length bytes → length digits ≡ 2 * length bytes →
    take (2 * place) digits ++ encode_lower (drop place bytes) ≡ encode_lower bytes →
    take (2 * (place + n)) (put_mid (2 * place) width digits now) ++ encode_lower (drop (place + n) bytes) ≡ encode_lower bytes
block_written bytes digits block now place n width enough same written within long inv =
    ap (λ (front : List ℕ). front ++ encode_lower (drop (place + n) bytes)) front
    ∙ append_assoc (take (2 * place) digits) now (encode_lower (drop (place + n) bytes))
    ∙ ap (λ (rest : List ℕ). take (2 * place) digits ++ rest) rest ∙ inv where
      fits : n ≤ length (drop place bytes)
      fits = subst (λ (xs : List ℕ). n ≤ length xs) (left_is bytes place) enough

      is : block ≡ take n (drop place bytes)
      is = same ∙ ap (take n) (left_is bytes place)

      size : length now ≡ 2 * n
      size =
          ap (λ (xs : List ℕ). length xs) written ∙ length-encode_with lower_digits block
          ∙ ap (λ (k : ℕ). 2 * k) (ap (λ (xs : List ℕ). length xs) is ∙ length-take-le n (drop place bytes) fits)

      front : take (2 * (place + n)) (put_mid (2 * place) width digits now) ≡ take (2 * place) digits ++ now
      front = take-put_mid (2 * place) width digits now (2 * (place + n)) (omega (arith, size)) (omega arith)

      rest : now ++ encode_lower (drop (place + n) bytes) ≡ encode_lower (drop place bytes)
      rest =
          ap (λ (xs : List ℕ). xs ++ encode_lower (drop (place + n) bytes)) (written ∙ ap encode_lower is)
          ∙ ap (λ (xs : List ℕ). encode_lower (take n (drop place bytes)) ++ encode_lower xs) (sym (drop-drop n place bytes))
          ∙ sym (encode_append lower_digits (take n (drop place bytes)) (drop n (drop place bytes)))
          ∙ ap encode_lower (take-append-drop n (drop place bytes))
