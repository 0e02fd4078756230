-- What is known of the bytes of a device that may tell them or keep them to itself.
use Rattle.std.specs.Prelude.{ℕ, List, Option, IfSome, IsSomeAnd}

-- a device that tells its bytes before a call tells them after it, and they have this relation
pub record Told (before after : Option (List ℕ)) (P : List ℕ → List ℕ → Type 0) : Type 0 where
  pub bytes : IfSome before (λ xs. IsSomeAnd after (λ ys. P xs ys))
