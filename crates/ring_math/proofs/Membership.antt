-- Membership in a list of numbers, by its first element and under a filter; std's `Contains` is by index.
use Rattle.std.proofs.Common.{◌≡◌, ◌<◌, ◌^◌, ℕ, Bool, true, false, ◌⊎◌, List, [], ◌∷◌, ◌++◌, zero, suc, sym, refl, subst, arith, inl, inr}
use Rattle.std.specs.Prelude.{◌==◌}
use Rattle.std.specs.List.{Contains, filter}
use Rattle.std.proofs.lemmas.Bool.{cond_both, or_cases}
use Rattle.std.proofs.lemmas.Bool.Decides.{Decides-eqb}
use Rattle.std.proofs.lemmas.List.Elements.{Contains-append_cases}
use Rattle.ring_math.specs.Members.{InRing}
use Rattle.ring_math.specs.Sides.{is_in}

pub Contains-here : (x : ℕ) (xs : List ℕ) → Contains (x ∷ xs) x
Contains-here x xs = (0, omega arith, refl)

pub Contains-there : (x : ℕ) (xs : List ℕ) (z : ℕ) → Contains xs z → Contains (x ∷ xs) z
Contains-there x xs z (k, lt, e) = (suc k, omega arith, e)

pub Contains-cases : (x : ℕ) (xs : List ℕ) (z : ℕ) → Contains (x ∷ xs) z → (z ≡ x) ⊎ Contains xs z
Contains-cases x xs z (zero, lt, e) = inl (sym e)
Contains-cases x xs z (suc k, lt, e) = inr (k, omega arith, e)

pub Contains-none : (z : ℕ) → Contains [] z → ⊥
Contains-none z (k, lt, e) = omega arith

-- a member that passes is kept
pub Contains-filter : (t : ℕ → Bool) (xs : List ℕ) (z : ℕ) → Contains xs z → t z ≡ true → Contains (filter t xs) z
Contains-filter t [] z c h = absurd (Contains-none z c)
Contains-filter t (x ∷ xs) z c h =
    cond_both (t x) (x ∷ filter t xs) (filter t xs) (λ ys. Contains ys z)
    (λ e. elim (Contains-cases x xs z c) [
      | inl same ↦ rw same (Contains-here x (filter t xs))
      | inr c' ↦ Contains-there x (filter t xs) z
          (Contains-filter t xs z c' h)
    ])
    (λ e. elim (Contains-cases x xs z c) [ inl same ↦ let e' : t z ≡ false = rw same e in absurd (cc) | inr c' ↦ Contains-filter t xs z c' h ])

filter_step : (t : ℕ → Bool) (x : ℕ) (xs : List ℕ) (z : ℕ) → (Contains (filter t xs) z → Contains xs z × (t z ≡ true)) →
    Contains (filter t (x ∷ xs)) z → Contains (x ∷ xs) z × (t z ≡ true)
filter_step t x xs z rest =
    cond_both (t x) (x ∷ filter t xs) (filter t xs) (λ ys. Contains ys z → Contains (x ∷ xs) z × (t z ≡ true))
    (λ e c. elim (Contains-cases x (filter t xs) z c) [
      | inl same ↦ (rw same (Contains-here x xs), rw same e)
      | inr c' ↦
          (Contains-there x xs z (rest c').0, (rest c').1)
    ])
    (λ e c. (Contains-there x xs z (rest c).0, (rest c).1))

-- and what is kept is a member that passes
pub Contains-from_filter : (t : ℕ → Bool) (xs : List ℕ) (z : ℕ) → Contains (filter t xs) z → Contains xs z × (t z ≡ true)
Contains-from_filter t [] z c = absurd (Contains-none z c)
Contains-from_filter t (x ∷ xs) z c = filter_step t x xs z (Contains-from_filter t xs z) c

-- the test of membership
pub Contains-is_in : (xs : List ℕ) (y : ℕ) → is_in xs y ≡ true → Contains xs y
Contains-is_in [] y e = cc
Contains-is_in (x ∷ xs) y e =
    elim (or_cases (x == y) (is_in xs y) e) [
      | inl f ↦ let same : x ≡ y = (Decides-eqb x y).0 f in subst (Contains (x ∷ xs)) same (Contains-here x xs)
      | inr f ↦ Contains-there x xs y (Contains-is_in xs y f)
    ]

-- more identifiers at the end
pub InRing-append : (xs ys : List ℕ) → InRing (Contains xs) → InRing (Contains ys) → InRing (Contains (xs ++ ys))
InRing-append xs ys hx hy z c = elim (Contains-append_cases xs ys z c) [ inl d ↦ hx z d | inr d ↦ hy z d ]

-- one more identifier at the end
pub InRing-more : (xs : List ℕ) (x : ℕ) → InRing (Contains xs) → x < 2 ^ 128 → InRing (Contains (xs ++ x ∷ []))
InRing-more xs x range hx =
    InRing-append xs (x ∷ []) range (λ z d. elim (Contains-cases x [] z d) [ inl e ↦ rw e hx | inr f ↦ absurd (Contains-none z f) ])
