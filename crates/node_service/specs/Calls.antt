-- What one call of a source gave to a service: bytes, or the end.
use Rattle.std.specs.Prelude.{◌≡◌, ℕ, ◌<◌, List, [], ◌++◌, length, Option}
use Rattle.outside.specs.declared.traits.Piece.{Piece}
use Rattle.outside.specs.declared.traits.Piece.TheVariants.{Got, End}
use Rattle.outside.specs.Told.{Told}
use Rattle.node_service.specs.declared.serving.TheConstants.{MOST_PIECE}

-- these bytes, at least one, which a source that tells its bytes had first
pub record Came {S : Type 0} (gives : S → ℕ → Piece → S → Type 0) (left : S → Option (List ℕ)) (before after : S) (bytes : List ℕ) : Type 0 where
  pub some : 0 < length bytes
  pub call : gives before MOST_PIECE (Got (length bytes)) after
  pub told : Told (left before) (left after) (λ had has. had ≡ bytes ++ has)

-- nothing was left
pub record IsAtEnd {S : Type 0} (gives : S → ℕ → Piece → S → Type 0) (left : S → Option (List ℕ)) (before after : S) : Type 0 where
  pub call : gives before MOST_PIECE End after
  pub told : Told (left before) (left after) (λ had has. (had ≡ []) × (has ≡ []))
