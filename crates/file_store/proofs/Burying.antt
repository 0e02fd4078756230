-- What burying one file, or a list of files, does to the entries.
use Rattle.std.proofs.Common.{◌≡◌, ◌<◌, ◌≤◌, ℕ, ◌+◌, Bool, true, false, not, ◌&&◌, ◌||◌, if◌then◌else◌, zero, suc, take, get_or, List, []}
use Rattle.std.proofs.Common.{◌∷◌, ◌++◌, length, refl, sym, ◌∙◌, arith, Option, Some, None, ap}
use Rattle.std.specs.List.{list_all, list_any}
use Rattle.std.proofs.lemmas.Bool.{ltb-true}
use Rattle.std.proofs.lemmas.List.{take_more}
use Rattle.ring_math.specs.declared.limits.TheConstants.{MOST_ENTRIES}
use Rattle.ring_math.specs.Names.{FileId}
use Rattle.ring_math.specs.declared.file.Held.{Held}
use Rattle.ring_math.specs.Files.{Slot, slot_of, with_slot, buried, buried_at, buried_all, has_entry, has_room, is_entry}
use Rattle.file_store.specs.Places.{is_rising}
use Rattle.file_store.specs.declared.answer.Bury.TheVariants.{Laid}
use Rattle.file_store.specs.Answers.{bury_at, bury_of, after_bury}
use Rattle.ring_math.specs.Bytewise.{same_bytes}
use Rattle.file_store.proofs.Slots.{by_test, if_both, with-same, slot-with, rising-with, length-with_least, length-with_old, length-with_new}

set_after : (o : Option Slot) (room : Bool) (hs : List Held) (f : FileId) → (o ≡ Some None → with_slot hs f None ≡ hs) → (is_entry o || room) ≡ true →
    with_slot hs f None ≡ after_bury (bury_at o room) hs f
set_after None true hs f same may = refl
set_after None false hs f same may = cc
set_after (Some None) room hs f same may = same refl
set_after (Some (Some b)) room hs f same may = refl

-- where the file has an entry or there is room, burying it sets its entry; a tombstone that is set again stays
pub set-buries : (hs : List Held) (f : FileId) → is_rising hs ≡ true → (has_entry hs f || has_room hs) ≡ true →
    with_slot hs f None ≡ after_bury (bury_of hs f) hs f
set-buries hs f r may = set_after (slot_of hs f) (has_room hs) hs f (λ tomb. with-same hs f None r tomb) may

laid_in_room : (o : Option Slot) (room : Bool) → bury_at o room ≡ Laid → (o ≡ None) × (room ≡ true)
laid_in_room None true e = (refl, refl)
laid_in_room None false e = cc
laid_in_room (Some None) room e = cc
laid_in_room (Some (Some b)) room e = cc

-- what becomes of the file's slot when t is buried
pub slot-buried : (hs : List Held) (t f : List ℕ) → (has_entry hs t || has_room hs) ≡ true →
    slot_of (buried hs t) f ≡ (if same_bytes t f then Some None else slot_of hs f)
slot-buried hs t f may = at (slot_of hs t) may where
  at : (o : Option Slot) → (is_entry o || has_room hs) ≡ true → slot_of (buried_at hs t o) f ≡ (if same_bytes t f then Some None else slot_of hs f)
  at None may = rw may (slot-with hs t None f)
  at (Some s) may = slot-with hs t None f

-- nothing is laid where there is no entry and no room
pub buried-refused : (hs : List Held) (t : List ℕ) → (has_entry hs t || has_room hs) ≡ false → buried hs t ≡ hs
buried-refused hs t refused = at (slot_of hs t) refused where
  at : (o : Option Slot) → (is_entry o || has_room hs) ≡ false → buried_at hs t o ≡ hs
  at None e = rw e refl
  at (Some s) e = cc

pub length-buried_least : (hs : List Held) (t : List ℕ) → length hs ≤ length (buried hs t)
length-buried_least hs t = at (slot_of hs t) where
  at : (o : Option Slot) → length hs ≤ length (buried_at hs t o)
  at None = if_both (λ (zs : List Held). length hs ≤ length zs) (has_room hs) _ _ (λ _. length-with_least hs t None) (λ _. omega arith)
  at (Some s) = length-with_least hs t None

pub length-buried_all_least : (hs : List Held) (ts : List (List ℕ)) → length hs ≤ length (buried_all hs ts)
length-buried_all_least hs [] = omega arith
length-buried_all_least hs (t ∷ ts) = omega (arith, length-buried_least hs t, length-buried_all_least (buried hs t) ts)

-- an entry that stands is no more than one
pub length-buried_old : (hs : List Held) (t : List ℕ) → is_rising hs ≡ true → has_entry hs t ≡ true → length (buried hs t) ≡ length hs
length-buried_old hs t r e = at (slot_of hs t) refl e where
  at : (o : Option Slot) → slot_of hs t ≡ o → is_entry o ≡ true → length (buried_at hs t o) ≡ length hs
  at None s e = cc
  at (Some o) s e = length-with_old hs t None o r s

pub length-buried_new : (hs : List Held) (t : List ℕ) → has_entry hs t ≡ false → has_room hs ≡ true → length (buried hs t) ≡ length hs + 1
length-buried_new hs t e room = at (slot_of hs t) refl e where
  at : (o : Option Slot) → slot_of hs t ≡ o → is_entry o ≡ false → length (buried_at hs t o) ≡ length hs + 1
  at None s e = rw room (length-with_new hs t None s)
  at (Some o) s e = cc

pub rising-buried : (hs : List Held) (t : List ℕ) → is_rising hs ≡ true → is_rising (buried hs t) ≡ true
rising-buried hs t r = at (slot_of hs t) where
  at : (o : Option Slot) → is_rising (buried_at hs t o) ≡ true
  at None = if_both (λ (zs : List Held). is_rising zs ≡ true) (has_room hs) _ _ (λ _. rising-with hs t None r) (λ _. r)
  at (Some s) = rising-with hs t None r

-- at most one more, and never more than 4,096
pub length-buried : (hs : List Held) (t : List ℕ) → is_rising hs ≡ true → length hs ≤ MOST_ENTRIES →
    (length (buried hs t) ≤ length hs + 1) × (length (buried hs t) ≤ MOST_ENTRIES)
length-buried hs t r l =
    by_test (has_entry hs t)
    (λ e. let old = length-buried_old hs t r e in (omega arith, omega arith))
    (λ e. by_test (has_room hs)
    (λ u. let new = length-buried_new hs t e u in let below = ltb-true (length hs) MOST_ENTRIES u in (omega arith, omega arith))
    (λ u. let same = ap length (buried-refused hs t (rw (e, u) refl)) in (omega arith, omega arith)))

pub length-buried_all : (hs : List Held) (ts : List (List ℕ)) → is_rising hs ≡ true → length hs ≤ MOST_ENTRIES →
    (length (buried_all hs ts) ≤ length hs + length ts) × (length (buried_all hs ts) ≤ MOST_ENTRIES)
length-buried_all hs [] r l = (omega arith, omega arith)
length-buried_all hs (t ∷ ts) r l =
    let one = length-buried hs t r l in
    let rest = length-buried_all (buried hs t) ts (rising-buried hs t r) one.1 in
    (omega arith, omega arith)

pub buried_all-append : (hs : List Held) (xs ys : List (List ℕ)) → buried_all hs (xs ++ ys) ≡ buried_all (buried_all hs xs) ys
buried_all-append hs [] ys = refl
buried_all-append hs (x ∷ xs) ys = buried_all-append (buried hs x) xs ys

-- one more of the list is buried
pub buried_all-turn : (hs : List Held) (ts : List (List ℕ)) (i : ℕ) (t : List ℕ) → i < length ts → t ≡ get_or ts i t →
    buried_all hs (take (i + 1) ts) ≡ buried (buried_all hs (take i ts)) t
buried_all-turn hs ts i t l e =
    ap (buried_all hs) (take_more ts i t l) ∙ buried_all-append hs (take i ts) (get_or ts i t ∷ []) ∙ ap (buried (buried_all hs (take i ts))) (sym e)

-- a part of the list leaves no more entries than the whole
pub length-buried_part : (hs : List Held) (ts : List (List ℕ)) (i : ℕ) → length (buried_all hs (take i ts)) ≤ length (buried_all hs ts)
length-buried_part hs [] zero = omega arith
length-buried_part hs [] (suc i) = omega arith
length-buried_part hs (t ∷ ts) zero = length-buried_all_least hs (t ∷ ts)
length-buried_part hs (t ∷ ts) (suc i) = length-buried_part (buried hs t) ts i

-- a list of which each file has an entry adds none
pub length-buried_known : (hs : List Held) (ts : List (List ℕ)) → is_rising hs ≡ true → list_all (has_entry hs) ts ≡ true →
    length (buried_all hs ts) ≡ length hs
length-buried_known hs [] r e = refl
length-buried_known hs (t ∷ ts) r e =
    let known = and-parts (has_entry hs t) (list_all (has_entry hs) ts) e in
    length-buried_known (buried hs t) ts (rising-buried hs t r) (still hs t ts known.0 known.1) ∙ length-buried_old hs t r known.0
  where
    and-parts : (a b : Bool) → a && b ≡ true → (a ≡ true) × (b ≡ true)
    and-parts true b e = (refl, e)
    and-parts false b e = cc

    stands_on : (hs : List Held) (t f : List ℕ) → has_entry hs t ≡ true → has_entry hs f ≡ true → has_entry (buried hs t) f ≡ true
    stands_on hs t f e u =
        ap is_entry (slot-buried hs t f (rw e refl)) ∙ if_both (λ (o : Option Slot). is_entry o ≡ true) (same_bytes t f) (Some None) (slot_of hs f)
        (λ _. refl) (λ _. u)

    still : (hs : List Held) (t : List ℕ) (fs : List (List ℕ)) → has_entry hs t ≡ true → list_all (has_entry hs) fs ≡ true →
        list_all (has_entry (buried hs t)) fs ≡ true
    still hs t [] e u = refl
    still hs t (f ∷ fs) e u =
        let known = and-parts (has_entry hs f) (list_all (has_entry hs) fs) u in
        rw (stands_on hs t f e known.0) (still hs t fs e known.1)

-- where not each has an entry, one has none
pub not_all-any : (hs : List Held) (ts : List (List ℕ)) → list_all (has_entry hs) ts ≡ false → list_any (λ t. not (has_entry hs t)) ts ≡ true
not_all-any hs [] e = cc
not_all-any hs (t ∷ ts) e = by_test (has_entry hs t) (λ u. rw u (not_all-any hs ts (rw u at e))) (λ u. rw u refl)

-- what is laid finds room, where there is room for the entry that it makes
pub laid-within : (hs : List Held) (t : List ℕ) (room : ℕ) → length (buried hs t) ≤ room → bury_of hs t ≡ Laid → length hs < room
laid-within hs t room l e =
    let laid = laid_in_room (slot_of hs t) (has_room hs) e in
    omega (arith, length-buried_new hs t (ap is_entry laid.0) laid.1)

pub rising-buried_all : (hs : List Held) (ts : List (List ℕ)) → is_rising hs ≡ true → is_rising (buried_all hs ts) ≡ true
rising-buried_all hs [] r = r
rising-buried_all hs (t ∷ ts) r = rising-buried_all (buried hs t) ts (rising-buried hs t r)
