-- Numbers in a list: who is in it passes the test of membership, and who is taken away is in it no more.
use Rattle.std.proofs.Common.{◌≡◌, ℕ, zero, suc, true, not, ◌==◌, List, [], ◌∷◌, filter, Contains, refl, arith}
use Rattle.std.proofs.lemmas.Bool.{or_left, or_right, not_from_true}
use Rattle.std.proofs.lemmas.Bool.Decides.{Decides-eqb}
use Rattle.ring_math.specs.Sides.{is_in}
use Rattle.ring_math.proofs.Membership.{Contains-from_filter}

pub Contains-passes : (xs : List ℕ) (y : ℕ) → Contains xs y → is_in xs y ≡ true
Contains-passes [] y c = let lt = c.1 in absurd (omega arith)
Contains-passes (x ∷ xs) y (zero, lt, e) = or_left (x == y) (is_in xs y) ((Decides-eqb x y).1 e)
Contains-passes (x ∷ xs) y (suc n, lt, e) = or_right (x == y) (is_in xs y) (Contains-passes xs y (n, omega arith, e))

-- y differs from itself
pub not_itself : (y : ℕ) → not (y == y) ≡ true → ⊥
not_itself y e = let no' = not_from_true (y == y) ((Decides-eqb y y).1 refl) in cc

pub taken_away : (xs : List ℕ) (y : ℕ) → Contains (filter (λ x. not (x == y)) xs) y → ⊥
taken_away xs y c = not_itself y (Contains-from_filter (λ x. not (x == y)) xs y c).1
