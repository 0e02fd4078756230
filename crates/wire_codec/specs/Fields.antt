-- The forms of a field of a frame: how each is spelled, and what it can hold.
use Rattle.std.specs.Prelude.{◌≡◌, ℕ, ◌<◌, ◌≤◌, ◌^◌, List, [], ◌∷◌, ◌++◌, length, slice_index}
use Rattle.std.specs.List.{flat_map, AllByRecursion}
use Rattle.std.specs.Int.{w16, w32, w64, w128, to_be_bytes}
use Rattle.ring_math.specs.Names as names
use Rattle.ring_math.specs.declared.limits.TheConstants.{MOST_BYTES, MOST_ENTRIES, MOST_MEMBERS}
use Rattle.wire_msg.specs.declared.limits.TheConstants.{MOST_COPIES}

pub data Field : Type 0 where
  Id : (id : names.Id) → Field
  File : (file : names.FileId) → Field
  Number : (number : names.Number) → Field
  Attempt : (attempt : names.Attempt) → Field
  Hops : (hops : names.Hops) → Field
  Copies : (copies : ℕ) → Field
  Bytes : (bytes : names.Content) → Field
  Ids : (ids : List names.Id) → Field
  Files : (files : List names.FileId) → Field
  Tombs : (tombs : List names.FileId) → Field
  Tag : (tag : ℕ) → Field

-- numbers have the most significant byte first, and a list its length or count in front
abbrev pub spelled : Field → List ℕ
spelled (Id id) = to_be_bytes w128 id
spelled (File file) = file
spelled (Number number) = to_be_bytes w64 number
spelled (Attempt attempt) = to_be_bytes w32 attempt
spelled (Hops hops) = to_be_bytes w16 hops
spelled (Copies copies) = copies ∷ []
spelled (Bytes bytes) = to_be_bytes w16 (length bytes) ++ bytes
spelled (Ids ids) = length ids ∷ flat_map (to_be_bytes w128) ids
spelled (Files files) = to_be_bytes w16 (length files) ++ flat_map (λ file. file) files
spelled (Tombs tombs) = to_be_bytes w16 (length tombs) ++ flat_map (λ tomb. tomb) tombs
spelled (Tag tag) = tag ∷ []

abbrev pub AreBytes : List ℕ → Type 0
AreBytes bytes = (i : ℕ) → slice_index bytes i < 256

-- 20 bytes
abbrev pub IsFile : names.FileId → Type 0
IsFile file = (length file ≡ 20) × AreBytes file

-- at least so many files, and no more than a store can hold
abbrev pub AreFiles : ℕ → List names.FileId → Type 0
AreFiles least files = (least ≤ length files) × (length files ≤ MOST_ENTRIES) × AllByRecursion IsFile files

abbrev pub Fits : Field → Type 0
Fits (Id id) = id < 2 ^ 128
Fits (File file) = IsFile file
Fits (Number number) = number < 2 ^ 64
Fits (Attempt attempt) = attempt < 2 ^ 32
Fits (Hops hops) = hops < 2 ^ 16
Fits (Copies copies) = (1 ≤ copies) × (copies ≤ MOST_COPIES)
Fits (Bytes bytes) = (length bytes ≤ MOST_BYTES) × AreBytes bytes
Fits (Ids ids) = (length ids ≤ MOST_MEMBERS) × AllByRecursion (λ id. id < 2 ^ 128) ids
Fits (Files files) = AreFiles 0 files
Fits (Tombs tombs) = AreFiles 1 tombs
Fits (Tag tag) = tag < 256
