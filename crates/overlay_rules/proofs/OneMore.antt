-- A list that has grown at its end: what stood in it stands where it stood.
use Rattle.std.proofs.Common.{◌≡◌, ◌<◌, ℕ, zero, suc, Bool, true, false, ◌||◌, List, [], ◌∷◌, ◌++◌, length, slice_get, refl, arith}

pub or_false : (b : Bool) → b || false ≡ b
or_false b = elim b as (λ v. v || false ≡ v) [ true ↦ refl | false ↦ refl ]

pub slice_get-more : {A : Type 0} (xs ys : List A) (i : ℕ) → i < length xs → slice_get (xs ++ ys) i ≡ slice_get xs i
slice_get-more [] ys i h = absurd (omega arith)
slice_get-more (x ∷ xs) ys zero h = refl
slice_get-more (x ∷ xs) ys (suc i) h = slice_get-more xs ys i (omega arith)
