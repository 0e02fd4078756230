-- The files of a node: entries by rising file identifier, each bytes or a tombstone.
use Rattle.std.specs.Prelude.{Bool, true, false, nat_lt, if◌then◌else◌, Option, Some, None, List, [], ◌∷◌, length, ◌&&◌}
use Rattle.std.specs.List.{list_all}
use Rattle.ring_math.specs.Names.{FileId, Content}
use Rattle.ring_math.specs.declared.file.Held.{Held}
use Rattle.ring_math.specs.declared.limits.TheConstants.{MOST_ENTRIES}
use Rattle.ring_math.specs.Bytewise.{same_bytes, is_before}

-- the bytes, or none for a tombstone
abbrev pub Slot : Type 0
Slot = Option Content

-- what stands for the file: nothing, a tombstone or bytes
abbrev pub slot_of : List Held → FileId → Option Slot
slot_of [] file = None
slot_of (h ∷ hs) file = if same_bytes h.file file then Some h.slot else slot_of hs file

-- the file's entry is now this one
abbrev pub with_slot : List Held → FileId → Slot → List Held
with_slot [] file slot = record { file = file; slot = slot } ∷ []
with_slot (h ∷ hs) file slot =
    if same_bytes h.file file then record { file = file; slot = slot } ∷ hs
    else (if is_before file h.file then record { file = file; slot = slot } ∷ (h ∷ hs) else h ∷ with_slot hs file slot)

-- fewer entries stand than a store has at most
abbrev pub has_room : List Held → Bool
has_room files = nat_lt (length files) MOST_ENTRIES

-- where this stands for a file of a tombs list: it becomes a tombstone, unless it has no entry and there is no room
abbrev pub buried_at : List Held → FileId → Option Slot → List Held
buried_at files file None = if has_room files then with_slot files file None else files
buried_at files file (Some slot) = with_slot files file None

abbrev pub buried : List Held → FileId → List Held
buried files file = buried_at files file (slot_of files file)

abbrev pub buried_all : List Held → List FileId → List Held
buried_all files [] = files
buried_all files (f ∷ fs) = buried_all (buried files f) fs

abbrev pub is_entry : Option Slot → Bool
is_entry None = false
is_entry (Some slot) = true

abbrev pub is_tomb : Option Slot → Bool
is_tomb None = false
is_tomb (Some None) = true
is_tomb (Some (Some bytes)) = false

abbrev pub has_entry : List Held → FileId → Bool
has_entry files file = is_entry (slot_of files file)

abbrev pub has_tomb : List Held → FileId → Bool
has_tomb files file = is_tomb (slot_of files file)

-- each file of the manifest has an entry, and each of the tombs is a tombstone
abbrev pub has_lists : List Held → List FileId → List FileId → Bool
has_lists files manifest tombs = list_all (has_entry files) manifest && list_all (has_tomb files) tombs
