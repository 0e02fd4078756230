-- How often a frame stands in a list.
use Rattle.std.specs.Prelude.{ℕ, List}
use Rattle.std.specs.List.{count_by}
use Rattle.std.specs.Str.{bytes_eq}

abbrev pub times : List ℕ → List (List ℕ) → ℕ
times frame frames = count_by (bytes_eq frame) frames
