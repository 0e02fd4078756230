-- What one call of a source does.
use Rattle.std.specs.Prelude.{◌≡◌, ℕ, ◌≤◌, Bool, true, false, List, [], ◌++◌, take, ⊤}
use Rattle.outside.specs.declared.traits.Piece.{Piece}
use Rattle.outside.specs.declared.traits.Piece.TheVariants.{Got, End, Failed}

-- a piece has from 1 byte to as many as there was room for
abbrev pub FitsIn : Piece → ℕ → Type 0
FitsIn (Got n) room = (1 ≤ n) × (n ≤ room)
FitsIn End room = ⊤
FitsIn Failed room = ⊤

-- the bytes left before a call are those that it gave, which stand first in the buffer, and then those left after it
abbrev pub Leaves : List ℕ → Piece → List ℕ → List ℕ → Type 0
Leaves before (Got n) buf after = before ≡ take n buf ++ after
Leaves before End buf after = (before ≡ []) × (after ≡ [])
Leaves before Failed buf after = ⊤

abbrev pub is_failed : Piece → Bool
is_failed (Got n) = false
is_failed End = false
is_failed Failed = true
