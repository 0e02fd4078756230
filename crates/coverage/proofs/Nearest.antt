-- The nearest of a list, by place and by value: the first place that is as near to the key as each holds what `closest_in` gives, and that is the
-- closest member.
use Rattle.std.proofs.Common.{◌≡◌, ℕ, ◌+◌, ◌<◌, ◌≤◌, Bool, true, false, List, [], ◌∷◌, length, drop, get_or, slice_index, Some, refl, sym, ◌∙◌, ap}
use Rattle.std.proofs.Common.{subst, arith, inl, inr}
use Rattle.std.specs.Prelude.{if◌then◌else◌}
use Rattle.std.specs.List.{Contains}
use Rattle.std.proofs.lemmas.Bool.{cases_Bool, cases_lt, cases_order}
use Rattle.std.proofs.lemmas.List.{drop_all, drop_more, get_or_default, length-drop}
use Rattle.std.proofs.lemmas.List.Elements.{Contains-get_or}
use Rattle.ring_math.specs.Ring.{is_nearer}
use Rattle.ring_math.specs.Members.{IsClosest}
use Rattle.coverage.specs.Closest.{closest_from, closest_in, IsFirstClosest}
use Rattle.coverage.proofs.Best.{IsBest, best_one, best_new, best_kept}

-- there is one such place
pub first_closest_one : (xs : List ℕ) (key i j : ℕ) → IsFirstClosest xs key i → IsFirstClosest xs key j → i ≡ j
first_closest_one xs key i j p q =
    elim (cases_order i j) [
      | inl e ↦ e
      | inr (inl lt) ↦ let a = q.first i lt in let b = p.nearest j q.within in cc
      | inr (inr gt) ↦ let a = p.first j gt in let b = q.nearest i p.within in cc
    ]

-- the rest of a list, one place on
record Next (ys : List ℕ) (n x : ℕ) (rest : List ℕ) : Type 0 where
  within : n < length ys
  first : get_or ys n 0 ≡ x
  behind : drop (n + 1) ys ≡ rest

next_place : (ys : List ℕ) (n x : ℕ) (rest : List ℕ) → drop n ys ≡ x ∷ rest → Next ys n x rest
next_place ys n x rest e =
    elim (cases_lt n (length ys)) [
      | inl lt ↦
          let split : drop n ys ≡ get_or ys n 0 ∷ drop (n + 1) ys = drop_more ys n 0 lt in
          record { within = lt; first = cc; behind = cc }
      | inr past ↦ let none : drop n ys ≡ [] = drop_all n ys past in cc
    ]

-- what `closest_from` gives, where b is the best place of the first n and the rest follows
record IsValueOfBest (ys : List ℕ) (key value : ℕ) : Type 0 where
  place : ℕ
  is : value ≡ get_or ys place 0
  best : IsBest ys key (length ys) place

closest_from-step : (key best x : ℕ) (xs : List ℕ) (b : Bool) → is_nearer x best key ≡ b →
    closest_from key best (x ∷ xs) ≡ closest_from key (if b then x else best) xs
closest_from-step key best x xs b e = rw e refl

best_from : (xs ys : List ℕ) (key n b : ℕ) → drop n ys ≡ xs → n ≤ length ys → IsBest ys key n b →
    IsValueOfBest ys key (closest_from key (get_or ys b 0) xs)
best_from [] ys key n b e le h =
    let all : n ≡ length ys = omega (arith, length-drop n ys, ap length e) in
    record { place = b; is = refl; best = subst (λ m. IsBest ys key m b) all h }
best_from (x ∷ rest) ys key n b e le h =
    let next = next_place ys n x rest e in
    let within = next.within in
    let go = λ (c : ℕ) (best : IsBest ys key (n + 1) c). best_from rest ys key (n + 1) c next.behind (omega arith) best in
    elim (cases_Bool (is_nearer x (get_or ys b 0) key)) [
      | inl nearer ↦
          let at_n : is_nearer (get_or ys n 0) (get_or ys b 0) key ≡ true = rw next.first nearer in
          let step : closest_from key (get_or ys b 0) (x ∷ rest) ≡ closest_from key (get_or ys n 0) rest =
          closest_from-step key (get_or ys b 0) x rest true nearer ∙ ap (λ v. closest_from key v rest) (sym next.first) in
          subst (IsValueOfBest ys key) (sym step) (go n (best_new ys key n b h at_n))
      | inr no_nearer ↦
          let at_n : is_nearer (get_or ys n 0) (get_or ys b 0) key ≡ false = rw next.first no_nearer in
          let step = closest_from-step key (get_or ys b 0) x rest false no_nearer in
          subst (IsValueOfBest ys key) (sym step) (go b (best_kept ys key n b h at_n))
    ]

best_first : (ys : List ℕ) (key i : ℕ) → IsBest ys key (length ys) i → IsFirstClosest ys key i
best_first ys key i h = record { within = h.within; nearest = h.nearest; first = h.first }

-- what `closest_in` gives stands at a first closest place
pub closest_in-place : (x : ℕ) (xs : List ℕ) (key : ℕ) →
    (i : ℕ) × (closest_in key (x ∷ xs) ≡ Some (slice_index (x ∷ xs) i)) × IsFirstClosest (x ∷ xs) key i
closest_in-place x xs key =
    let found = best_from xs (x ∷ xs) key 1 0 refl (omega arith) (best_one (x ∷ xs) key) in
    (found.place, ap Some found.is, best_first (x ∷ xs) key found.place found.best)

-- so it is the identifier at the first closest place
pub closest_in-first : (xs : List ℕ) (key i : ℕ) → IsFirstClosest xs key i → closest_in key xs ≡ Some (slice_index xs i)
closest_in-first [] key i h = let none = h.within in absurd (omega arith)
closest_in-first (x ∷ xs) key i h =
    let found = closest_in-place x xs key in
    found.1 ∙ ap (λ k. Some (slice_index (x ∷ xs) k)) (first_closest_one (x ∷ xs) key found.0 i found.2 h)

-- a first closest place holds the closest member
pub first_closest-closest : (xs : List ℕ) (key i : ℕ) → IsFirstClosest xs key i → IsClosest (Contains xs) key (slice_index xs i)
first_closest-closest xs key i h = record {
  member = Contains-get_or xs i 0 h.within;
  nearest = λ z (j, lt, e) ne. subst (λ w. is_nearer w (slice_index xs i) key ≡ false) (get_or_default xs j 0 z lt ∙ e) (h.nearest j lt);
}

-- and so does `closest_in`
pub closest_in-closest : (xs : List ℕ) (key y : ℕ) → closest_in key xs ≡ Some y → IsClosest (Contains xs) key y
closest_in-closest [] key y e = cc
closest_in-closest (x ∷ xs) key y e =
    let found = closest_in-place x xs key in
    let value = found.1 in
    let same : slice_index (x ∷ xs) found.0 ≡ y = cc in
    subst (IsClosest (Contains (x ∷ xs)) key) same (first_closest-closest (x ∷ xs) key found.0 found.2)
