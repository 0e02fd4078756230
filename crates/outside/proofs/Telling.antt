-- How facts on bytes that a device may tell are made, joined and read, for loops over a source or a sink.
use Rattle.std.proofs.Common.{◌≡◌, ℕ, List, Option, Some, None, refl, subst}
use Rattle.outside.specs.Told.{Told}

-- no call
pub Told-same : (o : Option (List ℕ)) (P : List ℕ → List ℕ → Type 0) → ((xs : List ℕ) → P xs xs) → Told o o P
Told-same None P p = record { bytes = tt }
Told-same (Some xs) P p = record { bytes = p xs }

-- one call after another
pub Told-then : (a b c : Option (List ℕ)) (P Q R : List ℕ → List ℕ → Type 0) → Told a b P → Told b c Q → ((xs ys zs : List ℕ) → P xs ys → Q ys zs → R xs zs) →
    Told a c R
Told-then None b c P Q R p q both = record { bytes = tt }
Told-then (Some xs) None c P Q R p q both = absurd p.bytes
Told-then (Some xs) (Some ys) None P Q R p q both = absurd q.bytes
Told-then (Some xs) (Some ys) (Some zs) P Q R p q both = record { bytes = both xs ys zs p.bytes q.bytes }

-- what is known where the bytes before are known
pub Told-at : (xs : List ℕ) (a b : Option (List ℕ)) (P : List ℕ → List ℕ → Type 0) → Told a b P → a ≡ Some xs → (ys : List ℕ) × (b ≡ Some ys) × P xs ys
Told-at xs a b P told is = at_some b (subst (λ o. Told o b P) is told) where
  at_some : (o : Option (List ℕ)) → Told (Some xs) o P → (ys : List ℕ) × (o ≡ Some ys) × P xs ys
  at_some None t = absurd t.bytes
  at_some (Some ys) t = (ys, refl, t.bytes)
