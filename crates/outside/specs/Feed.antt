-- Bytes in memory that are given out piece by piece.
use Rattle.std.specs.Prelude.{◌≡◌, ℕ, List, [], ◌∷◌, length, drop, min}
use Rattle.outside.specs.declared.traits.Piece.{Piece}
use Rattle.outside.specs.declared.traits.Piece.TheVariants.{Got, End, Failed}

pub record Feed : Type 0 where
  -- the bytes that were not given yet
  pub left : List ℕ
  -- the most that one call gives
  pub per_call : ℕ

-- what a call answers: as many bytes as all three of the buffer, the bytes left and the limit allow
abbrev pub next_piece : Feed → ℕ → Piece
next_piece f room = piece_at f.left where
  piece_at : List ℕ → Piece
  piece_at [] = End
  piece_at (x ∷ xs) = Got (min room (min f.per_call (length f.left)))

-- how many bytes a piece has
abbrev pub size_of : Piece → ℕ
size_of (Got n) = n
size_of End = 0
size_of Failed = 0

-- the bytes that are left once a piece was given
abbrev pub after_piece : Feed → Piece → Feed
after_piece f piece = record { left = drop (size_of piece) f.left; per_call = f.per_call }

-- one call with room for so many bytes
abbrev pub Gives : Feed → ℕ → Piece → Feed → Type 0
Gives f room piece after = (piece ≡ next_piece f room) × (after ≡ after_piece f piece)
