-- What stands for a file once a list of tombs is buried, told from the list and the entries as they are.
use Rattle.std.specs.Prelude.{◌≡◌, ◌≤◌, ℕ, Bool, true, ◌&&◌, if◌then◌else◌, Option, Some, None, List, [], ◌∷◌, length, take}
use Rattle.std.specs.List.{list_any}
use Rattle.ring_math.specs.Names.{FileId}
use Rattle.ring_math.specs.declared.file.Held.{Held}
use Rattle.ring_math.specs.Bytewise.{same_bytes, is_before}
use Rattle.ring_math.specs.Files.{Slot, slot_of, buried_all}

-- the list names the file
abbrev pub is_named : List FileId → FileId → Bool
is_named files file = list_any (λ f. same_bytes f file) files

-- by what stood, whether the tombs name the file, and whether they name it while there is room
abbrev pub slot_after : Option Slot → Bool → Bool → Option Slot
slot_after None named in_room = if in_room then Some None else None
slot_after (Some slot) named in_room = if named then Some None else Some slot

-- the first n of the tombs find room, and those behind them change nothing but entries
pub record Reaches (files : List Held) (tombs : List FileId) (n : ℕ) : Type 0 where
  pub within : n ≤ length tombs
  pub slots : (f : FileId) → slot_of (buried_all files tombs) f ≡ slot_after (slot_of files f) (is_named tombs f) (is_named (take n tombs) f)

-- each file comes before the next one
abbrev pub comes_first : FileId → List FileId → Bool
comes_first f [] = true
comes_first f (g ∷ gs) = is_before f g

abbrev pub rises : List FileId → Bool
rises [] = true
rises (f ∷ fs) = comes_first f fs && rises fs
