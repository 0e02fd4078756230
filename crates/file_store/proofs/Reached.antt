-- Tombs that are buried in order: while there is room each becomes a tombstone, and then only entries do.
use Rattle.std.proofs.Common.{◌≡◌, ℕ, ◌+◌, ◌<◌, ◌≤◌, Bool, true, false, not, ◌&&◌, ◌||◌, if◌then◌else◌, Option, Some, None, List, [], ◌∷◌, length}
use Rattle.std.proofs.Common.{get_or, take, drop, take-append-drop, take_all, length-take-le, zero, suc, subst, ◌-◌, refl, sym, ◌∙◌, ap, arith}
use Rattle.std.proofs.lemmas.Bool.{lt-ltb, le-ltb}
use Rattle.std.proofs.lemmas.Bool.Decides.{nat_tests}
use Rattle.std.proofs.lemmas.List.Folds.{list_any_more, list_any-append}
use Rattle.std.proofs.lemmas.List.{get_or_default}
use Rattle.ring_math.specs.declared.limits.TheConstants.{MOST_ENTRIES}
use Rattle.ring_math.specs.declared.file.Held.{Held}
use Rattle.ring_math.specs.Bytewise.{same_bytes}
use Rattle.ring_math.specs.Files.{Slot, slot_of, has_entry, has_room, is_entry, buried, buried_all}
use Rattle.file_store.specs.Places.{is_rising}
use Rattle.file_store.specs.Burial.{is_named, slot_after, Reaches}
use Rattle.file_store.proofs.Dictionary.{same-eq}
use Rattle.file_store.proofs.Slots.{by_test}
use Rattle.file_store.proofs.Burying.{slot-buried, buried-refused, length-buried_least, length-buried_old, length-buried_new, length-buried_all}
use Rattle.file_store.proofs.Burying.{rising-buried_all, buried_all-append, buried_all-turn}

-- the first i tombs have all become tombstones
pub record Laid (files : List Held) (tombs : List (List ℕ)) (i : ℕ) : Type 0 where
  pub slots : (f : List ℕ) → slot_of (buried_all files (take i tombs)) f ≡ (if is_named (take i tombs) f then Some None else slot_of files f)

choice_again : (a b : Bool) (o : Option Slot) → (if a then Some None else (if b then Some None else o)) ≡ (if b || a then Some None else o)
choice_again true true o = refl
choice_again true false o = refl
choice_again false true o = refl
choice_again false false o = refl

pub laid-none : (files : List Held) (tombs : List (List ℕ)) → Laid files tombs 0
laid-none files tombs = record { slots = λ f. refl }

-- one more, which has an entry or finds room
pub laid-turn : (files : List Held) (tombs : List (List ℕ)) (i : ℕ) → i < length tombs → Laid files tombs i →
    (has_entry (buried_all files (take i tombs)) (get_or tombs i []) || has_room (buried_all files (take i tombs))) ≡ true → Laid files tombs (i + 1)
laid-turn files tombs i l p may = record { slots = λ f. slots f } where
  slots : (f : List ℕ) → slot_of (buried_all files (take (i + 1) tombs)) f ≡ (if is_named (take (i + 1) tombs) f then Some None else slot_of files f)
  slots f =
      rw (
        buried_all-turn files tombs i (get_or tombs i []) l (get_or_default tombs i [] (get_or tombs i []) l),
        slot-buried (buried_all files (take i tombs)) (get_or tombs i []) f may,
        p.slots f,
        list_any_more (λ g. same_bytes g f) tombs i [] l,
      )
      (choice_again (same_bytes (get_or tombs i []) f) (is_named (take i tombs) f) (slot_of files f))

-- an entry then stands for what had one, and for what was named
pub entry-laid : (files : List Held) (tombs : List (List ℕ)) (i : ℕ) → Laid files tombs i → (f : List ℕ) →
    has_entry (buried_all files (take i tombs)) f ≡ (has_entry files f || is_named (take i tombs) f)
entry-laid files tombs i p f = ap is_entry (p.slots f) ∙ either (is_named (take i tombs) f) (slot_of files f) where
  either : (a : Bool) (o : Option Slot) → is_entry (if a then Some None else o) ≡ (is_entry o || a)
  either true None = refl
  either true (Some s) = refl
  either false None = refl
  either false (Some s) = refl

-- a tombstone, where the file is named and has an entry
abbrev pub tomb_of_entry : Option Slot → Bool → Option Slot
tomb_of_entry o named = if named && is_entry o then Some None else o

no_room-later : (hs : List Held) (t : List ℕ) → has_room hs ≡ false → has_room (buried hs t) ≡ false
no_room-later hs t full = let least = length-buried_least hs t in grind (arith, nat_tests)

-- where no room is left only entries become tombstones
slot-full : (hs : List Held) (ts : List (List ℕ)) (f : List ℕ) → has_room hs ≡ false →
    slot_of (buried_all hs ts) f ≡ tomb_of_entry (slot_of hs f) (is_named ts f)
slot-full hs [] f full = refl
slot-full hs (t ∷ ts) f full =
    slot-full (buried hs t) ts f (no_room-later hs t full)
    ∙ by_test (has_entry hs t)
    (λ e. ap (λ o. tomb_of_entry o (is_named ts f)) (slot-buried hs t f (rw e refl)) ∙ by_test (same_bytes t f)
    (λ u. rw u (named (is_named ts f) (slot_of hs f) (rw (← same-eq t f u) e)))
    (λ u. rw u refl))
    (λ e. ap (λ zs. tomb_of_entry (slot_of zs f) (is_named ts f)) (buried-refused hs t (rw (e, full) refl)) ∙ by_test (same_bytes t f)
    (λ u. rw u (unnamed (is_named ts f) (slot_of hs f) (rw (← same-eq t f u) e)))
    (λ u. rw u refl))
  where
    named : (a : Bool) (o : Option Slot) → is_entry o ≡ true → tomb_of_entry (Some None) a ≡ tomb_of_entry o true
    named a None e = cc
    named true (Some s) e = refl
    named false (Some s) e = refl

    unnamed : (a : Bool) (o : Option Slot) → is_entry o ≡ false → tomb_of_entry o a ≡ tomb_of_entry o true
    unnamed true None e = refl
    unnamed false None e = refl
    unnamed a (Some s) e = cc

-- where the tomb at place i finds no room, the tombs reach to it
pub reaches-full : (files : List Held) (tombs : List (List ℕ)) (i : ℕ) → i ≤ length tombs → Laid files tombs i →
    has_room (buried_all files (take i tombs)) ≡ false → Reaches files tombs i
reaches-full files tombs i l p full = record { within = l; slots = λ f. slots f } where
  joined : (a b : Bool) (o : Option Slot) → tomb_of_entry (if a then Some None else o) b ≡ slot_after o (a || b) a
  joined true true None = refl
  joined true true (Some s) = refl
  joined true false None = refl
  joined true false (Some s) = refl
  joined false true None = refl
  joined false true (Some s) = refl
  joined false false None = refl
  joined false false (Some s) = refl

  whole : buried_all files tombs ≡ buried_all (buried_all files (take i tombs)) (drop i tombs)
  whole = ap (buried_all files) (sym (take-append-drop i tombs)) ∙ buried_all-append files (take i tombs) (drop i tombs)

  named : (f : List ℕ) → is_named tombs f ≡ (is_named (take i tombs) f || is_named (drop i tombs) f)
  named f = ap (λ ts. is_named ts f) (sym (take-append-drop i tombs)) ∙ list_any-append (λ g. same_bytes g f) (take i tombs) (drop i tombs)

  slots : (f : List ℕ) → slot_of (buried_all files tombs) f ≡ slot_after (slot_of files f) (is_named tombs f) (is_named (take i tombs) f)
  slots f =
      ap (λ hs. slot_of hs f) whole ∙ slot-full (buried_all files (take i tombs)) (drop i tombs) f full
      ∙ ap (λ o. tomb_of_entry o (is_named (drop i tombs) f)) (p.slots f)
      ∙ joined (is_named (take i tombs) f) (is_named (drop i tombs) f) (slot_of files f)
      ∙ ap (λ a. slot_after (slot_of files f) a (is_named (take i tombs) f)) (sym (named f))

-- where each finds room, they reach to the end
pub reaches-end : (files : List Held) (tombs : List (List ℕ)) (n : ℕ) → n ≡ length tombs → Laid files tombs n → Reaches files tombs n
reaches-end files tombs n e p = record { within = omega arith; slots = λ f. slots f } where
  alone : (a : Bool) (o : Option Slot) → (if a then Some None else o) ≡ slot_after o a a
  alone true None = refl
  alone true (Some s) = refl
  alone false None = refl
  alone false (Some s) = refl

  all : take n tombs ≡ tombs
  all = take_all n tombs (omega arith)

  slots : (f : List ℕ) → slot_of (buried_all files tombs) f ≡ slot_after (slot_of files f) (is_named tombs f) (is_named (take n tombs) f)
  slots f =
      let now : slot_of (buried_all files tombs) f ≡ (if is_named tombs f then Some None else slot_of files f) = rw all at p.slots f in
      now ∙ alone (is_named tombs f) (slot_of files f) ∙ ap (λ ts. slot_after (slot_of files f) (is_named tombs f) (is_named ts f)) (sym all)

-- where there is room for the whole list each finds room
pub laid-all : (files : List Held) (tombs : List (List ℕ)) (n : ℕ) → is_rising files ≡ true → length files + length tombs ≤ MOST_ENTRIES → n ≤ length tombs →
    Laid files tombs n
laid-all files tombs zero r room l = laid-none files tombs
laid-all files tombs (suc n) r room l =
    let before = laid-all files tombs n r room (omega arith) in
    let bound = length-buried_all files (take n tombs) r (omega arith) in
    let taken : length (take n tombs) ≡ n = length-take-le n tombs (omega arith) in
    let below : length (buried_all files (take n tombs)) < MOST_ENTRIES = omega arith in
    subst (Laid files tombs) {x = n + 1} (omega arith) (laid-turn files tombs n (omega arith) before (or-right _ (lt-ltb _ _ below)))
  where
    or-right : (a : Bool) {b : Bool} → b ≡ true → (a || b) ≡ true
    or-right true e = refl
    or-right false e = e

-- how many more may be laid once the first i tombs are buried
pub record Spares (files : List Held) (tombs : List (List ℕ)) (i n : ℕ) : Type 0 where
  pub laid : Laid files tombs i
  pub spare : length (buried_all files (take i tombs)) + n ≡ MOST_ENTRIES

pub spares-new : (files : List Held) (tombs : List (List ℕ)) (i spare : ℕ) → i < length tombs → Spares files tombs i spare → 0 < spare →
    (has_entry files (get_or tombs i []) || is_named (take i tombs) (get_or tombs i [])) ≡ false → Spares files tombs (i + 1) (spare - 1)
spares-new files tombs i spare l p some new =
    let below : length (buried_all files (take i tombs)) < MOST_ENTRIES = let e = p.spare in omega arith in
    let room : has_room (buried_all files (take i tombs)) ≡ true = lt-ltb _ _ below in
    let none : has_entry (buried_all files (take i tombs)) (get_or tombs i []) ≡ false = entry-laid files tombs i p.laid (get_or tombs i []) ∙ new in
    let turn = buried_all-turn files tombs i (get_or tombs i []) l (get_or_default tombs i [] (get_or tombs i []) l) in
    let more = length-buried_new (buried_all files (take i tombs)) (get_or tombs i []) none room in
    record {
      laid = laid-turn files tombs i l p.laid (rw (none, room) refl);
      spare = let e = p.spare in rw turn (omega arith);
    }

pub spares-old : (files : List Held) (tombs : List (List ℕ)) (i spare : ℕ) → is_rising files ≡ true → i < length tombs → Spares files tombs i spare →
    (has_entry files (get_or tombs i []) || is_named (take i tombs) (get_or tombs i [])) ≡ true → Spares files tombs (i + 1) spare
spares-old files tombs i spare r l p old =
    let some : has_entry (buried_all files (take i tombs)) (get_or tombs i []) ≡ true = entry-laid files tombs i p.laid (get_or tombs i []) ∙ old in
    let turn = buried_all-turn files tombs i (get_or tombs i []) l (get_or_default tombs i [] (get_or tombs i []) l) in
    let same = length-buried_old (buried_all files (take i tombs)) (get_or tombs i []) (rising-buried_all files (take i tombs) r) some in
    record {
      laid = laid-turn files tombs i l p.laid (rw some refl);
      spare = let e = p.spare in rw turn (omega arith);
    }

-- none to spare, and a tomb that has no entry yet
pub spares-none : (files : List Held) (tombs : List (List ℕ)) (i : ℕ) → i < length tombs → Spares files tombs i 0 → Reaches files tombs i
spares-none files tombs i l p = reaches-full files tombs i (omega arith) p.laid (le-ltb _ _ (let e = p.spare in omega arith))

-- what is not new has an entry or was named, and what is new neither
pub not_true : (a b : Bool) → a ≡ not b → a ≡ true → b ≡ false
not_true a true e t = cc
not_true a false e t = refl

pub not_false : (a b : Bool) → a ≡ not b → a ≡ false → b ≡ true
not_false a true e t = refl
not_false a false e t = cc
