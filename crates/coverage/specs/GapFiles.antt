-- The files and the tombstones that a joiner takes over: those whose key is in its gap.
use Rattle.std.specs.Prelude.{Bool, ◌&&◌, is_some, is_none, List, filter, map}
use Rattle.ring_math.specs.Names.{Id, FileId}
use Rattle.ring_math.specs.Keys.{key_of}
use Rattle.ring_math.specs.declared.file.Held.{Held}
use Rattle.coverage.specs.declared.Reach.{Reach}
use Rattle.coverage.specs.Coverage.{in_gap_of}

-- what a Grant gives: the files with bytes, and the tombstones
pub record Lists : Type 0 where
  pub manifest : List FileId
  pub tombs : List FileId

abbrev pub is_in_gap : Reach → Id → Held → Bool
is_in_gap r j h = in_gap_of r j (key_of h.file)

abbrev pub files_in_gap : Reach → Id → List Held → List FileId
files_in_gap r j files = map (λ h. h.file) (filter (λ h. is_some h.slot && is_in_gap r j h) files)

abbrev pub tombs_in_gap : Reach → Id → List Held → List FileId
tombs_in_gap r j files = map (λ h. h.file) (filter (λ h. is_none h.slot && is_in_gap r j h) files)

abbrev pub lists_in_gap : Reach → Id → List Held → Lists
lists_in_gap r j files = record { manifest = files_in_gap r j files; tombs = tombs_in_gap r j files }
