-- Lines of which the bytes come piece by piece: those that ended, and what came of the next.
use Rattle.std.specs.Prelude.{◌≡◌, ℕ, ◌==◌, Bool, false, List, [], ◌∷◌, ◌++◌}
use Rattle.std.specs.List.{AllByRecursion, flat_map}

-- the byte 0a ends a line
abbrev pub is_end : ℕ → Bool
is_end byte = byte == 10

-- a line with its end
abbrev pub ended : List ℕ → List ℕ
ended line = line ++ 10 ∷ []

abbrev pub HasNoEnd : List ℕ → Type 0
HasNoEnd bytes = AllByRecursion (λ byte. is_end byte ≡ false) bytes

-- the bytes are these lines, each with its end, and then less than a line
pub record IsCut (bytes : List ℕ) (lines : List (List ℕ)) (rest : List ℕ) : Type 0 where
  pub whole : bytes ≡ flat_map ended lines ++ rest
  pub each : AllByRecursion HasNoEnd lines
  pub begun : HasNoEnd rest
