-- The nearest of a list to a key.
use Rattle.std.specs.Prelude.{◌≡◌, ℕ, ◌<◌, true, false, if◌then◌else◌, Option, Some, None, List, [], ◌∷◌, length, slice_index}
use Rattle.ring_math.specs.Names.{Id, Key}
use Rattle.ring_math.specs.Ring.{is_nearer}

-- of best and the list, the first to which no other is nearer
abbrev pub closest_from : Key → Id → List Id → Id
closest_from key best [] = best
closest_from key best (x ∷ xs) = closest_from key (if is_nearer x best key then x else best) xs

abbrev pub closest_in : Key → List Id → Option Id
closest_in key [] = None
closest_in key (x ∷ xs) = Some (closest_from key x xs)

-- i is the first place whose identifier is as near to the key as each
pub record IsFirstClosest (xs : List Id) (key : Key) (i : ℕ) : Type 0 where
  pub within : i < length xs
  pub nearest : (j : ℕ) → j < length xs → is_nearer (slice_index xs j) (slice_index xs i) key ≡ false
  pub first : (j : ℕ) → j < i → is_nearer (slice_index xs i) (slice_index xs j) key ≡ true
