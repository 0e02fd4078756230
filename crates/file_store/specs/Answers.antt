-- What a store answers, and what it becomes, by what stands for the file.
use Rattle.std.specs.Prelude.{Bool, Option, Some, None, if◌then◌else◌, List, length, nat_lt, not, ◌&&◌, ◌||◌}
use Rattle.std.specs.List.{list_any}
use Rattle.ring_math.specs.Names.{FileId, Content}
use Rattle.ring_math.specs.declared.file.Held.{Held}
use Rattle.ring_math.specs.Bytewise.{same_bytes}
use Rattle.ring_math.specs.Files.{Slot, slot_of, with_slot, has_room, has_entry}
use Rattle.file_store.specs.Store.{Store}
use Rattle.file_store.specs.declared.answer.Put.{Put}
use Rattle.file_store.specs.declared.answer.Put.TheVariants as put
use Rattle.file_store.specs.declared.answer.Bury.{Bury}
use Rattle.file_store.specs.declared.answer.Bury.TheVariants as bury

-- the bytes, where bytes stand
abbrev pub bytes_in : Option Slot → Option Content
bytes_in None = None
bytes_in (Some slot) = slot

abbrev pub put_at : Option Slot → Content → Bool → Put
put_at (Some (Some held)) bytes room = if same_bytes held bytes then put.Same else put.Differs
put_at (Some None) bytes room = put.Gone
put_at None bytes room = if room then put.New else put.Full

abbrev pub put_of : List Held → FileId → Content → Put
put_of files file bytes = put_at (slot_of files file) bytes (has_room files)

-- only New changes the store
abbrev pub after_put : Put → List Held → FileId → Content → List Held
after_put put.New files file bytes = with_slot files file (Some bytes)
after_put put.Same files file bytes = files
after_put put.Differs files file bytes = files
after_put put.Gone files file bytes = files
after_put put.Full files file bytes = files

abbrev pub bury_at : Option Slot → Bool → Bury
bury_at (Some None) room = bury.Already
bury_at (Some (Some held)) room = bury.Buried
bury_at None room = if room then bury.Laid else bury.Full

abbrev pub bury_of : List Held → FileId → Bury
bury_of files file = bury_at (slot_of files file) (has_room files)

-- only Buried and Laid change the store
abbrev pub after_bury : Bury → List Held → FileId → List Held
after_bury bury.Buried files file = with_slot files file None
after_bury bury.Laid files file = with_slot files file None
after_bury bury.Already files file = files
after_bury bury.Full files file = files

-- a slot can be set for the file without memory: it has an entry, or there is room in the store and memory was taken for one more
abbrev pub can_set : Store → FileId → Bool
can_set store file = has_entry store.files file || (has_room store.files && nat_lt (length store.files) store.room)

-- burying these may lay a tombstone: one of them has no entry, and there is room
abbrev pub lays_any : List Held → List FileId → Bool
lays_any files tombs = has_room files && list_any (λ t. not (has_entry files t)) tombs
