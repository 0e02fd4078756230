-- What a joiner takes over: the lists of each side, once they came.
use Rattle.std.specs.Prelude.{Bool, false, ◌&&◌, Option, Some, None, List}
use Rattle.ring_math.specs.declared.file.Held.{Held}
use Rattle.ring_math.specs.Files.{has_lists}
use Rattle.coverage.specs.GapFiles.{Lists}

pub record Taken : Type 0 where
  pub left : Option Lists
  pub right : Option Lists

-- the first lists of a side are kept, and later ones dropped
abbrev pub kept : Option Lists → Lists → Option Lists
kept None new = Some new
kept (Some first) new = Some first

-- the lists of a side once more are kept, or none
abbrev pub kept_or : Option Lists → Option Lists → Option Lists
kept_or (Some first) new = Some first
kept_or None new = new

-- the lists are kept, and each file of the manifest has an entry and each of the tombs is a tombstone
abbrev pub is_done : List Held → Option Lists → Bool
is_done files None = false
is_done files (Some lists) = has_lists files lists.manifest lists.tombs

abbrev pub is_complete : List Held → Taken → Bool
is_complete files taken = is_done files taken.left && is_done files taken.right
