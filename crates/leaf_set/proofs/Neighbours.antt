-- The nearest to a key of a side that rises is one of the two between which the key lies.
use Rattle.std.proofs.Common.{◌≡◌, ◌⊎◌, ℕ, zero, suc, true, false, nat_lt, ltb, ◌+◌, ◌^◌, ◌<◌, ◌≤◌, List, [], ◌∷◌, length, get_or, All, Some, arith}
use Rattle.std.proofs.Common.{sym, ◌∙◌, subst, inl, inr, ◌≢◌}
use Rattle.std.specs.List.{Contains, position_or_len}
use Rattle.std.specs.Prelude.{MatchOption}
use Rattle.std.proofs.lemmas.Bool.{cases_lt, cond_both}
use Rattle.std.proofs.lemmas.Bool.Decides.{nat_tests}
use Rattle.std.proofs.lemmas.List.{get_or_default}
use Rattle.std.proofs.lemmas.List.Elements.{All-get_or}
use Rattle.std.proofs.lemmas.List.Sums.{fails_before_first, passes_at_first}
use Rattle.ring_math.specs.Direction.{far}
use Rattle.ring_math.specs.declared.direction.Direction.{Direction}
use Rattle.ring_math.specs.declared.direction.Direction.TheVariants.{Clockwise, Counterclockwise}
use Rattle.ring_math.specs.Members.{IsClosest}
use Rattle.ring_math.specs.Nearer.{nearer_of}
use Rattle.ring_math.specs.Ring.{cw_of, is_nearer}
use Rattle.ring_math.proofs.Distances.{cw_cases, cw-lt}
use Rattle.ring_math.proofs.Nearness.{rank, rank_cases, is_nearer-rank}
use Rattle.leaf_set.specs.Beside.{IsBefore, IsFrom}
use Rattle.leaf_set.specs.Rising.{Rises}

-- ---- as numbers

-- z lies on one side of the key or the other, and so do the two beside it, each at least as close to the key on its side as z
abbrev Beside : ℕ → ℕ → ℕ → ℕ → Type 0
Beside d z before from =
    ((z ≤ d) × (before ≤ d) × (z ≤ before) × ((d < from) ⊎ (from ≤ z))) ⊎ ((d < z) × (d < from) × (from ≤ z) × ((before ≤ d) ⊎ (z ≤ before)))

clockwise-of : (me key z : ℕ) → me < 2 ^ 128 → key < 2 ^ 128 → z < 2 ^ 128 →
    ((cw_of me z ≤ cw_of me key) × (cw_of z key + cw_of me z ≡ cw_of me key))
    ⊎ ((cw_of me key < cw_of me z) × (cw_of z key + cw_of me z ≡ cw_of me key + 2 ^ 128))
clockwise-of me key z hm hk hz = grind (arith, cw_cases me key hm hk, cw_cases me z hm hz, cw_cases z key hz hk)

counterclockwise-of : (me key z : ℕ) → me < 2 ^ 128 → key < 2 ^ 128 → z < 2 ^ 128 →
    ((cw_of key me ≤ cw_of z me) × (cw_of z key + cw_of key me ≡ cw_of z me))
    ⊎ ((cw_of z me < cw_of key me) × (cw_of z key + cw_of key me ≡ cw_of z me + 2 ^ 128))
counterclockwise-of me key z hm hk hz = grind (arith, cw_cases key me hk hm, cw_cases z me hz hm, cw_cases z key hz hk)

-- so one of the two is as near as z
near : (me key z b a : ℕ) (direction : Direction) → me < 2 ^ 128 → key < 2 ^ 128 → z < 2 ^ 128 → b < 2 ^ 128 → a < 2 ^ 128 →
    Beside (far me direction key) (far me direction z) (far me direction b) (far me direction a) → (rank key b ≤ rank key z) ⊎ (rank key a ≤ rank key z)
near me key z b a Clockwise hm hk hz hb ha h =
    grind (
      arith,
      h,
      cw-lt me key,
      cw-lt me z,
      cw-lt me a,
      cw-lt me b,
      clockwise-of me key z hm hk hz,
      clockwise-of me key b hm hk hb,
      clockwise-of me key a hm hk ha,
      rank_cases key z,
      rank_cases key b,
      rank_cases key a,
    )
near me key z b a Counterclockwise hm hk hz hb ha h =
    grind (
      arith,
      h,
      cw-lt key me,
      cw-lt z me,
      cw-lt a me,
      cw-lt b me,
      counterclockwise-of me key z hm hk hz,
      counterclockwise-of me key b hm hk hb,
      counterclockwise-of me key a hm hk ha,
      rank_cases key z,
      rank_cases key b,
      rank_cases key a,
    )

-- ---- in a list

pub rises_at : (f : ℕ → ℕ) (xs : List ℕ) (i j : ℕ) → Rises f xs → i ≤ j → j < length xs → f (get_or xs i 0) ≤ f (get_or xs j 0)
rises_at f [] i j h le lt = absurd (omega arith)
rises_at f (x ∷ xs) zero zero h le lt = omega arith
rises_at f (x ∷ xs) zero (suc j) h le lt = All-get_or (λ z. f x ≤ f z) xs j 0 (omega arith) h.0
rises_at f (x ∷ xs) (suc i) zero h le lt = absurd (omega arith)
rises_at f (x ∷ xs) (suc i) (suc j) h le lt = rises_at f xs i j h.1 (omega arith) (omega arith)

module _ (f : ℕ → ℕ) (d p before from : ℕ) (xs : List ℕ) (h : Rises f xs) (first : p ≡ position_or_len (λ y. nat_lt d (f y)) xs)
    (b : IsBefore before p (length xs)) (a : IsFrom from p (length xs)) where
  not_after : (k : ℕ) → k < p → f (get_or xs k 0) ≤ d
  not_after k lt =
      let fails : nat_lt d (f (get_or xs k 0)) ≡ false = fails_before_first (λ y. nat_lt d (f y)) xs k 0 (subst (λ n. k < n) first lt) in
      grind (arith, nat_tests, fails)

  after : (k : ℕ) → p ≤ k → k < length xs → d < f (get_or xs k 0)
  after k le lt =
      let passes : nat_lt d (f (get_or xs p 0)) ≡ true =
      subst (λ n. nat_lt d (f (get_or xs n 0)) ≡ true) (sym first)
      (passes_at_first (λ y. nat_lt d (f y)) xs 0 (subst (λ n. n < length xs) first (omega (arith, le, lt)))) in
      let rising = rises_at f xs p k h le lt in
      grind (arith, nat_tests, passes, rising)

  pub beside : (k : ℕ) → k < length xs → Beside d (f (get_or xs k 0)) (f (get_or xs before 0)) (f (get_or xs from 0))
  beside k lt = elim (cases_lt k p) [
    | inl l ↦ inl (not_after k l, low l b, high l b, on l a)
    | inr r ↦ inr (after k r lt, beyond r a, least r a, back r b)
  ] where
    low : k < p → IsBefore before p (length xs) → f (get_or xs before 0) ≤ d
    low l (inl (none, last)) = absurd (omega arith)
    low l (inr next) = not_after before (omega arith)

    high : k < p → IsBefore before p (length xs) → f (get_or xs k 0) ≤ f (get_or xs before 0)
    high l (inl (none, last)) = absurd (omega arith)
    high l (inr next) = rises_at f xs k before h (omega arith) (omega (arith, within a)) where
      within : IsFrom from p (length xs) → p ≤ length xs
      within (inl (all, zero_is)) = omega arith
      within (inr (some, same)) = omega arith

    on : k < p → IsFrom from p (length xs) → (d < f (get_or xs from 0)) ⊎ (f (get_or xs from 0) ≤ f (get_or xs k 0))
    on l (inl (all, none)) = inr (rises_at f xs from k h (omega arith) lt)
    on l (inr (some, same)) = inl (after from (omega arith) (omega arith))

    beyond : p ≤ k → IsFrom from p (length xs) → d < f (get_or xs from 0)
    beyond r (inl (all, none)) = absurd (omega arith)
    beyond r (inr (some, same)) = after from (omega arith) (omega arith)

    least : p ≤ k → IsFrom from p (length xs) → f (get_or xs from 0) ≤ f (get_or xs k 0)
    least r (inl (all, none)) = absurd (omega arith)
    least r (inr (some, same)) = rises_at f xs from k h (omega arith) lt

    back : p ≤ k → IsBefore before p (length xs) → (f (get_or xs before 0) ≤ d) ⊎ (f (get_or xs k 0) ≤ f (get_or xs before 0))
    back r (inl (none, last)) = inr (rises_at f xs k before h (omega arith) (omega arith))
    back r (inr next) = inl (not_after before (omega arith))

-- ---- the nearest

module _ (me key : ℕ) (direction : Direction) (p before from : ℕ) (xs : List ℕ) (hm : me < 2 ^ 128) (hk : key < 2 ^ 128)
    (h : Rises (far me direction) xs) (in_ring : All (λ z. z < 2 ^ 128) xs)
    (first : p ≡ position_or_len (λ y. nat_lt (far me direction key) (far me direction y)) xs)
    (b : IsBefore before p (length xs)) (a : IsFrom from p (length xs)) (lb : before < length xs) (la : from < length xs) where
  ranged : (k : ℕ) → k < length xs → get_or xs k 0 < 2 ^ 128
  ranged k lt = All-get_or (λ z. z < 2 ^ 128) xs k 0 lt in_ring

  one_is_nearer : (k : ℕ) → k < length xs →
      (rank key (get_or xs before 0) ≤ rank key (get_or xs k 0)) ⊎ (rank key (get_or xs from 0) ≤ rank key (get_or xs k 0))
  one_is_nearer k lt =
      near me key (get_or xs k 0) (get_or xs before 0) (get_or xs from 0) direction hm hk (ranged k lt) (ranged before lb) (ranged from la)
      (beside (far me direction) (far me direction key) p before from xs h first b a k lt)

  closest_at : (i : ℕ) → i < length xs → ((k : ℕ) → k < length xs → rank key (get_or xs i 0) ≤ rank key (get_or xs k 0)) →
      IsClosest (Contains xs) key (get_or xs i 0)
  closest_at i lt least = record { member = (i, lt, get_or_default xs i (get_or xs i 0) 0 lt); nearest = nearest } where
    nearest : (z : ℕ) → Contains xs z → z ≢ get_or xs i 0 → is_nearer z (get_or xs i 0) key ≡ false
    nearest z (k, lk, at) ne =
        let z_is : get_or xs k 0 ≡ z = get_or_default xs k 0 z lk ∙ at in
        let le = least k lk in
        subst (λ w. is_nearer w (get_or xs i 0) key ≡ false) z_is
        (is_nearer-rank (get_or xs k 0) (get_or xs i 0) key (ranged k lk) (ranged i lt) hk ∙ grind (arith, nat_tests, le))

  pub closest_beside : MatchOption (nearer_of (Some (get_or xs before 0)) (Some (get_or xs from 0)) key) (xs ≡ []) (λ y. IsClosest (Contains xs) key y)
  closest_beside =
      cond_both (is_nearer (get_or xs from 0) (get_or xs before 0) key) (Some (get_or xs from 0)) (Some (get_or xs before 0))
      (λ o. MatchOption o (xs ≡ []) (λ y. IsClosest (Contains xs) key y))
      (λ e. closest_at from la (λ k lt. grind (arith, nat_tests, one_is_nearer k lt, sym order ∙ e)))
      (λ e. closest_at before lb (λ k lt. grind (arith, nat_tests, one_is_nearer k lt, sym order ∙ e))) where
        order : is_nearer (get_or xs from 0) (get_or xs before 0) key ≡ ltb (rank key (get_or xs from 0)) (rank key (get_or xs before 0))
        order = is_nearer-rank (get_or xs from 0) (get_or xs before 0) key (ranged from la) (ranged before lb) hk
