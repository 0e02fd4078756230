-- What one call of a sink does, and what many calls may have done.
use Rattle.std.specs.Prelude.{◌≡◌, ℕ, ◌≤◌, ◌<◌, Bool, true, false, List, ◌++◌, length, take, ⊤}
use Rattle.outside.specs.declared.traits.Taken.{Taken}
use Rattle.outside.specs.declared.traits.Taken.TheVariants.{Took, Failed}

-- a call takes from 1 byte to all that it was offered
abbrev pub IsPartOf : Taken → List ℕ → Type 0
IsPartOf (Took n) bytes = (1 ≤ n) × (n ≤ length bytes)
IsPartOf Failed bytes = ⊤

-- what was taken before a call, and then the bytes that it took
abbrev pub Appends : List ℕ → Taken → List ℕ → List ℕ → Type 0
Appends before (Took n) bytes after = after ≡ before ++ take n bytes
Appends before Failed bytes after = after ≡ before

-- what was taken before, and then the first of the bytes, but not all of them
abbrev pub BreaksOff : List ℕ → List ℕ → List ℕ → Type 0
BreaksOff bytes before after = (n : ℕ) × (n < length bytes) × (after ≡ before ++ take n bytes)

abbrev pub is_failed : Taken → Bool
is_failed (Took n) = false
is_failed Failed = true
