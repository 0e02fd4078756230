-- A slot is set where the file has an entry, or there is room.
use Rattle.std.proofs.Common.{◌≡◌, ℕ, Bool, true, false, Option, Some, None, List, refl}
use Rattle.ring_math.specs.declared.file.Held.{Held}
use Rattle.ring_math.specs.Bytewise.{same_bytes}
use Rattle.ring_math.specs.Files.{Slot, slot_of, with_slot, is_entry, has_entry, has_room}
use Rattle.file_store.specs.declared.answer.Put.TheVariants as put
use Rattle.file_store.specs.declared.answer.Bury.TheVariants as bury
use Rattle.file_store.specs.Answers.{put_at, put_of, bury_at, bury_of}
use Rattle.node_parts.specs.Change.{set_in}

by_test : {P : Type 0} (b : Bool) → (b ≡ true → P) → (b ≡ false → P) → P
by_test true f g = f refl
by_test false f g = g refl

-- a put is New only where there is room, and no entry
room-at : (slot : Option Slot) (bytes : List ℕ) (room : Bool) → put_at slot bytes room ≡ put.New → room ≡ true
room-at None bytes true e = refl
room-at None bytes false e = cc
room-at (Some None) bytes room e = cc
room-at (Some (Some held)) bytes room e = by_test (same_bytes held bytes) (λ t. let k = rw t at e in cc) (λ t. let k = rw t at e in cc)

pub room-new : (files : List Held) (file bytes : List ℕ) → put_of files file bytes ≡ put.New → has_room files ≡ true
room-new files file bytes e = room-at (slot_of files file) bytes (has_room files) e

none-at : (slot : Option Slot) (bytes : List ℕ) (room : Bool) → put_at slot bytes room ≡ put.New → slot ≡ None
none-at None bytes room e = refl
none-at (Some None) bytes room e = cc
none-at (Some (Some held)) bytes room e = by_test (same_bytes held bytes) (λ t. let k = rw t at e in cc) (λ t. let k = rw t at e in cc)

pub none-new : (files : List Held) (file bytes : List ℕ) → put_of files file bytes ≡ put.New → slot_of files file ≡ None
none-new files file bytes e = none-at (slot_of files file) bytes (has_room files) e

is_entry-at : (slot : Option Slot) (room : Bool) → bury_at slot room ≡ bury.Buried → is_entry slot ≡ true
is_entry-at None true e = cc
is_entry-at None false e = cc
is_entry-at (Some slot) room e = refl

pub entry-buried : (files : List Held) (file : List ℕ) → bury_of files file ≡ bury.Buried → has_entry files file ≡ true
entry-buried files file e = is_entry-at (slot_of files file) (has_room files) e

-- where there is room, a slot is set
pub set-room : (files : List Held) (file : List ℕ) (slot : Slot) → has_room files ≡ true → set_in files file slot ≡ with_slot files file slot
set-room files file slot e = by_test (has_entry files file) (λ t. rw t refl) (λ t. rw (t, e) refl)

pub set-entry : (files : List Held) (file : List ℕ) (slot : Slot) → has_entry files file ≡ true → set_in files file slot ≡ with_slot files file slot
set-entry files file slot e = rw e refl
