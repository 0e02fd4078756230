-- Fields written at the end of the bytes.
use Rattle.std.specs.Prelude.{◌≡◌, ℕ, List, ◌++◌}
use Rattle.std.specs.List.{flat_map, AllByRecursion}
use Rattle.wire_codec.specs.Fields.{Field, spelled, Fits}

-- the new bytes are the old ones and the fields, each of which fits its form
pub record Writes (old new : List ℕ) (fields : List Field) : Type 0 where
  pub bytes : new ≡ old ++ flat_map spelled fields
  pub fits : AllByRecursion Fits fields
