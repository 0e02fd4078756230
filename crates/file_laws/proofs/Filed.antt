-- The files of a large scenario are the pieces of its file: the fragments, and behind them the index.
use Rattle.std.proofs.Common.{◌≡◌, ◌<◌, ℕ, zero, suc, ◌+◌, List, [], ◌∷◌, codes, get_or, length, refl, ap, ◌∙◌, arith}
use Rattle.std.proofs.lemmas.List.{get_or_append_left}
use Rattle.schedule.specs.declared.file.MadeFile.{MadeFile}
use Rattle.schedule.specs.Making.{file_at, no_file}
use Rattle.fragments.specs.declared.piece.Piece.{Piece}
use Rattle.fragments.specs.declared.piece.Pieces.{Pieces}
use Rattle.fragments.specs.Large.{declared, declared_from, large_making}

-- a file of the scenario that is this piece
pub record IsPiece (made : MadeFile) (p : Piece) : Type 0 where
  pub file : made.file ≡ p.file
  pub bytes : made.bytes ≡ p.bytes

declared_at : (i : ℕ) (pieces : List Piece) (k : ℕ) (d : Piece) → k < length pieces → IsPiece (get_or (declared_from i pieces) k no_file) (get_or pieces k d)
declared_at i [] k d h = absurd (omega arith)
declared_at i (p ∷ pieces) zero d h = record { file = refl; bytes = refl }
declared_at i (p ∷ pieces) (suc k) d h = declared_at (i + 1) pieces k d (omega arith)

length_declared : (i : ℕ) (pieces : List Piece) → length (declared_from i pieces) ≡ length pieces
length_declared i [] = refl
length_declared i (p ∷ pieces) = ap suc (length_declared (i + 1) pieces)

pub fragment_at : (nodes seed : ℕ) (pieces : Pieces) (k : ℕ) (d : Piece) → k < length pieces.fragments →
    IsPiece (file_at (large_making nodes seed pieces) k) (get_or pieces.fragments k d)
fragment_at nodes seed pieces k d h =
    let long = length_declared 0 pieces.fragments in
    let there = get_or_append_left (declared_from 0 pieces.fragments) (declared (codes "x") pieces.index ∷ []) no_file k (omega arith) in
    let is = declared_at 0 pieces.fragments k d h in
    record {
      file = ap (λ (made : MadeFile). made.file) there ∙ is.file;
      bytes = ap (λ (made : MadeFile). made.bytes) there ∙ is.bytes;
    }
