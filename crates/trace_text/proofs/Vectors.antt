-- Vectors of sixteen bytes, lane by lane.
use Rattle.std.proofs.Common.{◌≡◌, ℕ, zero, suc, ◌+◌, ◌*◌, ◌/◌, ◌%◌, ◌^◌, ◌<◌, ◌≤◌, ◌-◌, ◌⊎◌, inl, inr}
use Rattle.std.proofs.Common.{Bool, true, false, cond, List, [], ◌∷◌, ◌++◌, length, map, replicate, get_or, slice_index}
use Rattle.std.proofs.Common.{refl, sym, ap, subst, ◌∙◌, arith, leb, w8}
use Rattle.std.specs.List.{range_with_len}
use Rattle.std.specs.Simd.Lanes.{zip2, sel_l, mask_l, put_chunk, top}
use Rattle.std.specs.Prelude.{nat_lt, take, drop}
use Rattle.std.proofs.lemmas.Bool.{cases_lt, leb-true, leb-false, ltb-true, ltb-false}
use Rattle.std.proofs.lemmas.List.{get_or-append-add, get_or_append_left, ext_get_or, length-map, length-take-le, take_at}
use Rattle.std.proofs.lemmas.Simd.{get_or-sel_l, get_or-zip2, length-sel_l, length-zip2, mask_l-mod, put_chunk_is, tops_compared, zip2_splat_left}
use Rattle.hex.specs.Hex.{encode_lower, encode_with, lower_digits}
use Rattle.hex.proofs.HexLemmas.{length-encode_with}
use Rattle.trace_text.specs.Lanes.{HasLanes}

-- ---- lanes that are written out

at_range : (f : ℕ → ℕ) (a n k : ℕ) → k < n → get_or (map f (range_with_len a n)) k 0 ≡ f (a + k)
at_range f a zero k lt = absurd (omega arith)
at_range f a (suc n) zero lt = ap f (omega arith)
at_range f a (suc n) (suc k) lt = at_range f (a + 1) n k (omega arith) ∙ ap f (omega arith)

pub written_out : (f : ℕ → ℕ) → HasLanes (map f (range_with_len 0 16)) f
written_out f = record { long = refl; each = λ k h. at_range f 0 16 k h ∙ ap f (omega arith) }

-- ---- two vectors that were loaded one behind the other

pub loaded : (xs ys text : List ℕ) (p j : ℕ) → HasLanes xs (λ k. slice_index text (p + k)) → HasLanes ys (λ k. slice_index text (p + 16 + k)) → j < 32 →
    slice_index (xs ++ ys) j ≡ slice_index text (p + j)
loaded xs ys text p j first second within = by_half (cases_lt j 16) where
  by_half : (j < 16) ⊎ (16 ≤ j) → slice_index (xs ++ ys) j ≡ slice_index text (p + j)
  by_half (inl below) = get_or_append_left xs ys 0 j (omega (arith, first.long, below)) ∙ first.each j below
  by_half (inr above) =
      let k : ℕ = j - 16 in
      let there : 16 + k ≡ j = omega arith in
      ap (λ i. slice_index (xs ++ ys) i) (sym there ∙ ap (λ n. n + k) (sym first.long)) ∙ get_or-append-add xs ys k 0
      ∙ second.each k (omega arith) ∙ ap (λ i. slice_index text i) (omega arith)

-- ---- an operator on two vectors

pub operated : (f : ℕ → ℕ → ℕ) (xs ys : List ℕ) → length xs ≡ 16 → length ys ≡ 16 → HasLanes (zip2 f xs ys) (λ k. f (get_or xs k 0) (get_or ys k 0))
operated f xs ys long long_too = record {
  long = length-zip2 f xs ys (long ∙ sym long_too) ∙ long;
  each = λ k h. get_or-zip2 f xs ys k 0 0 0 (omega (arith, long, h)) (omega (arith, long_too, h));
}

-- ---- a choice by a test of two vectors

pub chosen : (t : ℕ → ℕ → Bool) (xs ys one other : List ℕ) → length xs ≡ 16 → length ys ≡ 16 → length one ≡ 16 → length other ≡ 16 →
    HasLanes (sel_l (map (top 7) (zip2 (λ a b. cond (t a b) 255 0) xs ys)) one other)
    (λ k. cond (t (get_or xs k 0) (get_or ys k 0)) (get_or one k 0) (get_or other k 0))
chosen t xs ys one other long long_too one_long other_long =
    let tests : List Bool = zip2 t xs ys in
    let size : length tests ≡ 16 = length-zip2 t xs ys (long ∙ sym long_too) ∙ long in
    subst (λ (ms : List Bool). HasLanes (sel_l ms one other) (λ k. cond (t (get_or xs k 0) (get_or ys k 0)) (get_or one k 0) (get_or other k 0)))
    (sym (tops_compared w8 t xs ys)) (record {
      long = length-sel_l tests one other (size ∙ sym one_long) (size ∙ sym other_long) ∙ size;
      each = λ k h. get_or-sel_l tests one other k 0 (omega (arith, size, h)) (omega (arith, one_long, h)) (omega (arith, other_long, h))
          ∙ ap (λ b. cond b (get_or one k 0) (get_or other k 0)) (get_or-zip2 t xs ys k 0 0 false (omega (arith, long, h)) (omega (arith, long_too, h)));
    })

-- ---- lanes below 16, by their mask

small_by : (x : ℕ) (b : Bool) (n : ℕ) → leb 16 x ≡ b → cond b 1 0 + 2 * n ≡ 0 → (x < 16) × (n ≡ 0)
small_by x true n is none = absurd (omega arith)
small_by x false n is none = (omega (arith, leb-false 16 x is), omega arith)

pub small_from_mask : (xs : List ℕ) → mask_l (map (leb 16) xs) ≡ 0 → (k : ℕ) → k < length xs → get_or xs k 0 < 16
small_from_mask [] none k lt = absurd (omega arith)
small_from_mask (x ∷ xs) none zero lt = (small_by x (leb 16 x) (mask_l (map (leb 16) xs)) refl none).0
small_from_mask (x ∷ xs) none (suc k) lt =
    small_from_mask xs (small_by x (leb 16 x) (mask_l (map (leb 16) xs)) refl none).1 k (omega arith)

unset_by : (x : ℕ) (b : Bool) (n : ℕ) → leb 16 x ≡ b → x < 16 → n ≡ 0 → cond b 1 0 + 2 * n ≡ 0
unset_by x true n is small none = absurd (omega (arith, leb-true 16 x is))
unset_by x false n is small none = omega arith

pub mask_from_small : (xs : List ℕ) → ((k : ℕ) → k < length xs → get_or xs k 0 < 16) → mask_l (map (leb 16) xs) ≡ 0
mask_from_small [] small = refl
mask_from_small (x ∷ xs) small =
    unset_by x (leb 16 x) (mask_l (map (leb 16) xs)) refl (small 0 (omega arith)) (mask_from_small xs (λ k lt. small (suc k) (omega arith)))

pub mask_is : (xs : List ℕ) → length xs ≡ 16 →
    mask_l (map (top 7) (zip2 (λ a b. cond (leb a b) 255 0) (replicate 16 16) xs)) % 2 ^ 64 ≡ mask_l (map (leb 16) xs)
mask_is xs long =
    ap (λ (ms : List Bool). mask_l ms % 2 ^ 64) (tops_compared w8 leb (replicate 16 16) xs ∙ zip2_splat_left leb 16 16 xs long)
    ∙ mask_l-mod (map (leb 16) xs) 64 (omega (arith, length-map xs (leb 16), long))

-- ---- the greater of two

both_by : (a b : ℕ) (t : Bool) → nat_lt a b ≡ t → cond t b a < 16 → (a < 16) × (b < 16)
both_by a b true is small = omega (arith, ltb-true a b is)
both_by a b false is small = omega (arith, ltb-false a b is)

pub both_below : (a b : ℕ) → cond (nat_lt a b) b a < 16 → (a < 16) × (b < 16)
both_below a b small = both_by a b (nat_lt a b) refl small

greater_by : (a b : ℕ) (t : Bool) → a < 16 → b < 16 → cond t b a < 16
greater_by a b true one other = other
greater_by a b false one other = one

pub greater_below : (a b : ℕ) → a < 16 → b < 16 → cond (nat_lt a b) b a < 16
greater_below a b one other = greater_by a b (nat_lt a b) one other

-- ---- what was stored leaves what stands before it

pub stored_behind : (i : ℕ) (xs ys : List ℕ) → i + length ys ≤ length xs → take i (put_chunk i xs ys) ≡ take i xs
stored_behind i xs ys room =
    ap (take i) (put_chunk_is i xs ys room) ∙ take_at (take i xs) (ys ++ drop (length ys) (drop i xs)) i (omega (arith, length-take-le i xs (omega arith)))

-- ---- digits of bytes, interleaved

encoded_at : (xs : List ℕ) (k : ℕ) → k < length xs →
    (get_or (encode_lower xs) (2 * k) 0 ≡ slice_index lower_digits (get_or xs k 0 / 16)) ×
    (get_or (encode_lower xs) (2 * k + 1) 0 ≡ slice_index lower_digits (get_or xs k 0 % 16))
unfolding encode_with
encoded_at [] k lt = absurd (omega arith)
encoded_at (x ∷ xs) zero lt = (refl, refl)
encoded_at (x ∷ xs) (suc k) lt =
    let ih = encoded_at xs k (omega arith) in
    let even : 2 * suc k ≡ suc (suc (2 * k)) = omega arith in
    let odd : 2 * suc k + 1 ≡ suc (suc (2 * k + 1)) = omega arith in
    (ap (λ i. get_or (encode_lower (x ∷ xs)) i 0) even ∙ ih.0, ap (λ i. get_or (encode_lower (x ∷ xs)) i 0) odd ∙ ih.1)

pub block_encoded : (block high low : List ℕ) → length block ≡ 16 → HasLanes high (λ k. slice_index lower_digits (slice_index block k / 16)) →
    HasLanes low (λ k. slice_index lower_digits (slice_index block k % 16)) →
    map (λ j. slice_index (high ++ low) (j / 2 + 16 * (j % 2))) (range_with_len 0 32) ≡ encode_lower block
block_encoded block high low long of_high of_low =
    let f : ℕ → ℕ = λ j. slice_index (high ++ low) (j / 2 + 16 * (j % 2)) in
    let size : length (encode_lower block) ≡ 32 = length-encode_with lower_digits block ∙ omega (arith, long) in
    ext_get_or 0 (map f (range_with_len 0 32)) (encode_lower block) (sym size) (λ j within. at_range f 0 32 j within ∙ by_half j within (cases_lt (j % 2) 1))
  where
    by_half : (j : ℕ) → j < 32 → (j % 2 < 1) ⊎ (1 ≤ j % 2) → slice_index (high ++ low) ((0 + j) / 2 + 16 * ((0 + j) % 2)) ≡ get_or (encode_lower block) j 0
    by_half j within (inl even) =
        let k : ℕ = j / 2 in
        let there : 2 * k ≡ j = omega arith in
        ap (λ i. slice_index (high ++ low) i) (omega arith) ∙ get_or_append_left high low 0 k (omega (arith, of_high.long)) ∙ of_high.each k (omega arith)
        ∙ sym (encoded_at block k (omega (arith, long))).0 ∙ ap (λ i. get_or (encode_lower block) i 0) there
    by_half j within (inr odd) =
        let k : ℕ = j / 2 in
        let there : 2 * k + 1 ≡ j = omega arith in
        ap (λ i. slice_index (high ++ low) i) (omega (arith, of_high.long)) ∙ get_or-append-add high low k 0 ∙ of_low.each k (omega arith)
        ∙ sym (encoded_at block k (omega (arith, long))).1 ∙ ap (λ i. get_or (encode_lower block) i 0) there
