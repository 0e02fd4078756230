-- Where a file stands, and what a change at that place makes of the list.
use Rattle.std.proofs.Common.{◌≡◌, IsTrue, ◌||◌, ◌<◌, ◌≤◌, ℕ, ◌+◌, Bool, true, false, not, ◌&&◌, if◌then◌else◌, List, [], ◌∷◌, length, get_or, refl}
use Rattle.std.proofs.Common.{sym, ◌∙◌, arith, Option, Some, None, ap, suc, zero}
use Rattle.std.proofs.Math.ListN.{set}
use Rattle.std.specs.List.{insert, list_all}
use Rattle.std.proofs.lemmas.Bool.Decides.{nat_tests}
use Rattle.ring_math.specs.declared.limits.TheConstants.{MOST_ENTRIES}
use Rattle.ring_math.specs.declared.file.Held.{Held}
use Rattle.ring_math.specs.Bytewise.{same_bytes, is_before}
use Rattle.ring_math.specs.Files.{Slot, slot_of, with_slot, has_entry, has_tomb, is_entry, is_tomb}
use Rattle.file_store.specs.Store.{Store}
use Rattle.file_store.specs.Spread.{blank}
use Rattle.file_store.specs.Answers.{can_set}
use Rattle.file_store.specs.Places.{place_of, is_rising, is_before_first, is_here, StandsAt, GoesInAt}
use Rattle.file_store.proofs.Dictionary.{same-eq, same-refl, after-not_same, before-else, before-not_same, before-asym, before-trans}

-- a test, and what holds in each case
pub by_test : {P : Type 0} (b : Bool) → (b ≡ true → P) → (b ≡ false → P) → P
by_test true f g = f refl
by_test false f g = g refl

-- what holds of both arms holds of the choice
pub if_both : {A : Type 0} (P : A → Type 0) (b : Bool) (x y : A) → (b ≡ true → P x) → (b ≡ false → P y) → P (if b then x else y)
if_both P true x y first second = first refl
if_both P false x y first second = second refl

both : (a b : Bool) → a && b ≡ true → (a ≡ true) × (b ≡ true)
both true b e = (refl, e)
both false b e = cc

-- the entries before the place come before the file
pub before-place : (hs : List Held) (f : List ℕ) (i : ℕ) (d : Held) → i < place_of hs f → is_before (get_or hs i d).file f ≡ true
before-place [] f i d l = absurd (omega arith)
before-place (h ∷ hs) f zero d l = by_test (is_before h.file f) (λ t. t) (λ t. absurd (let k = rw t at l in omega arith))
before-place (h ∷ hs) f (suc i) d l =
    by_test (is_before h.file f)
    (λ t. before-place hs f i d (let k = rw t at l in omega arith))
    (λ t. absurd (let k = rw t at l in omega arith))

first-before : (x : List ℕ) (f : List ℕ) (hs : List Held) → is_before f x ≡ true → is_before_first x hs ≡ true → is_before_first f hs ≡ true
first-before x f [] e r = refl
first-before x f (h ∷ hs) e r = before-trans f x h.file e r

-- each entry of a rising list comes after what comes before the first
rising-after : (f : List ℕ) (hs : List Held) (i : ℕ) (d : Held) → is_before_first f hs ≡ true → is_rising hs ≡ true → i < length hs →
    is_before f (get_or hs i d).file ≡ true
rising-after f [] i d e r l = absurd (omega arith)
rising-after f (h ∷ hs) zero d e r l = e
rising-after f (h ∷ hs) (suc i) d e r l = rising-after f hs i d (first-before h.file f hs e (both _ _ r).0) (both _ _ r).1 (omega arith)

-- of a rising list, no entry from the place on comes before the file
pub after-place : (hs : List Held) (f : List ℕ) (i : ℕ) (d : Held) → is_rising hs ≡ true → place_of hs f ≤ i → i < length hs →
    is_before (get_or hs i d).file f ≡ false
after-place [] f i d r p l = absurd (omega arith)
after-place (h ∷ hs) f zero d r p l = by_test (is_before h.file f) (λ t. absurd (let k = rw t at p in omega arith)) (λ t. t)
after-place (h ∷ hs) f (suc i) d r p l =
    by_test (is_before h.file f)
    (λ t. after-place hs f i d (both _ _ r).1 (let k = rw t at p in omega arith) (omega arith))
    (λ t. not_before-later h.file f (get_or hs i d).file t (rising-after h.file hs i d (both _ _ r).0 (both _ _ r).1 (omega arith)))
  where
    not_before-later : (x f y : List ℕ) → is_before x f ≡ false → is_before x y ≡ true → is_before y f ≡ false
    not_before-later x f y t u = by_test (is_before y f) (λ v. absurd (clash (before-trans x y f u v))) (λ v. v) where
      clash : is_before x f ≡ true → ⊥
      clash w = cc

-- one step of the search: the place is beyond an entry that comes before the file
pub beyond : (hs : List Held) (f : List ℕ) (i : ℕ) (d : Held) → is_rising hs ≡ true → i < length hs → is_before (get_or hs i d).file f ≡ true →
    i < place_of hs f
beyond hs f i d r l t = grind (arith, after-place hs f i d r)

-- and not beyond one that does not
pub within : (hs : List Held) (f : List ℕ) (i : ℕ) (d : Held) → is_before (get_or hs i d).file f ≡ false → place_of hs f ≤ i
within hs f i d t = grind (arith, before-place hs f i d)

pub place-within : (hs : List Held) (f : List ℕ) → place_of hs f ≤ length hs
place-within [] f = omega arith
place-within (h ∷ hs) f = let i = place-within hs f in grind (arith, i)

pub here-at : (hs : List Held) (f : List ℕ) (d : Held) → place_of hs f < length hs → is_here hs f ≡ same_bytes (get_or hs (place_of hs f) d).file f
here-at [] f d l = absurd (omega arith)
here-at (h ∷ hs) f d l =
    by_test (is_before h.file f)
    (λ e. rw e (here-at hs f d (let k = rw e at l in omega arith)))
    (λ e. rw e refl)

pub here-end : (hs : List Held) (f : List ℕ) → length hs ≤ place_of hs f → is_here hs f ≡ false
here-end [] f l = refl
here-end (h ∷ hs) f l = let i = here-end hs f in grind (arith, i)

pub here-within : (hs : List Held) (f : List ℕ) → is_here hs f ≡ true → place_of hs f < length hs
here-within hs f e = grind (arith, here-end hs f)

-- what stands at the place is what stands for the file
pub slot-some : (hs : List Held) (f : List ℕ) (d : Held) → is_here hs f ≡ true → slot_of hs f ≡ Some (get_or hs (place_of hs f) d).slot
slot-some [] f d e = cc
slot-some (h ∷ hs) f d e =
    by_test (is_before h.file f)
    (λ t. rw (before-not_same h.file f t, t) (slot-some hs f d (rw t at e)))
    (λ t. rw (rw t at e, t) refl)

-- a file before the first of a rising list has no entry
none-before : (hs : List Held) (f : List ℕ) → is_before_first f hs ≡ true → is_rising hs ≡ true → slot_of hs f ≡ None
none-before [] f e r = refl
none-before (h ∷ hs) f e r =
    rw (after-not_same h.file f e) (none-before hs f (first-before h.file f hs e (both _ _ r).0) (both _ _ r).1)

pub slot-none : (hs : List Held) (f : List ℕ) → is_rising hs ≡ true → is_here hs f ≡ false → slot_of hs f ≡ None
slot-none [] f r e = refl
slot-none (h ∷ hs) f r e =
    by_test (is_before h.file f)
    (λ t. rw (before-not_same h.file f t) (slot-none hs f (both _ _ r).1 (rw t at e)))
    (λ t. none-before (h ∷ hs) f (before-else h.file f t (rw t at e)) r)

-- a new slot for the file is written at its place, or goes in there
pub with-set : (hs : List Held) (f : List ℕ) (s : Slot) → is_here hs f ≡ true → with_slot hs f s ≡ set hs (place_of hs f) (record { file = f; slot = s })
with-set [] f s e = cc
with-set (h ∷ hs) f s e =
    by_test (is_before h.file f)
    (λ t. rw (t, before-not_same h.file f t, before-asym h.file f t) (ap (λ zs. h ∷ zs) (with-set hs f s (rw t at e))))
    (λ t. rw (rw t at e, t) refl)

pub with-insert : (hs : List Held) (f : List ℕ) (s : Slot) → is_here hs f ≡ false → with_slot hs f s ≡ insert hs (place_of hs f) (record { file = f; slot = s })
with-insert [] f s e = refl
with-insert (h ∷ hs) f s e =
    by_test (is_before h.file f)
    (λ t. rw (t, before-not_same h.file f t, before-asym h.file f t) (ap (λ zs. h ∷ zs) (with-insert hs f s (rw t at e))))
    (λ t. rw (rw t at e, before-else h.file f t (rw t at e), t) refl)

and-true : (a b : Bool) → a ≡ true → b ≡ true → a && b ≡ true
and-true a b e f = rw (e, f) refl

rising-with-first : (x : List ℕ) (hs : List Held) (f : List ℕ) (s : Slot) → is_before x f ≡ true → is_before_first x hs ≡ true →
    is_before_first x (with_slot hs f s) ≡ true
rising-with-first x [] f s e r = e
rising-with-first x (h ∷ hs) f s e r =
    let P : List Held → Type 0 = λ zs. is_before_first x zs ≡ true in
    if_both P (same_bytes h.file f) _ _ (λ _. e) (λ _. if_both P (is_before f h.file) _ _ (λ _. e) (λ _. r))

pub rising-with : (hs : List Held) (f : List ℕ) (s : Slot) → is_rising hs ≡ true → is_rising (with_slot hs f s) ≡ true
rising-with [] f s r = refl
rising-with (h ∷ hs) f s r =
    let P : List Held → Type 0 = λ zs. is_rising zs ≡ true in
    if_both P (same_bytes h.file f) _ _
    (λ t. rw (sym (same-eq h.file f t)) r)
    (λ t. if_both P (is_before f h.file) _ _
    (λ u. and-true (is_before f h.file) _ u r)
    (λ u. and-true _ _ (rising-with-first h.file hs f s (before-else f h.file u (same-turned h.file f t)) (both _ _ r).0) (rising-with hs f s (both _ _ r).1)))
  where
    same-turned : (a b : List ℕ) → same_bytes a b ≡ false → same_bytes b a ≡ false
    same-turned [] [] e = e
    same-turned [] (y ∷ ys) e = refl
    same-turned (x ∷ xs) [] e = refl
    same-turned (x ∷ xs) (y ∷ ys) e = let h = same-turned xs ys in grind (arith, nat_tests, h)

-- an entry is its file and its slot
entry-is : (h : Held) (f : List ℕ) (s : Slot) → h.file ≡ f → Some h.slot ≡ Some s → record { file = f; slot = s } ≡ h
entry-is h f s e t = let u : h.slot ≡ s = cc in ap (λ g. record { file = g; slot = s }) (sym e) ∙ ap (λ z. record { file = h.file; slot = z }) (sym u)

-- a slot that stands is there again when it is set again
pub with-same : (hs : List Held) (f : List ℕ) (s : Slot) → is_rising hs ≡ true → slot_of hs f ≡ Some s → with_slot hs f s ≡ hs
with-same [] f s r e = cc
with-same (h ∷ hs) f s r e =
    by_test (same_bytes h.file f)
    (λ t. rw t (ap (λ g. g ∷ hs) (entry-is h f s (same-eq h.file f t) (rw t at e))))
    (λ t. by_test (is_before f h.file)
    (λ u. let none = none-before (h ∷ hs) f u r in cc)
    (λ u. rw (t, u) (ap (λ zs. h ∷ zs) (with-same hs f s (both _ _ r).1 (rw t at e)))))

-- a new entry is one more, and a new slot for an entry is no more
pub length-with_new : (hs : List Held) (f : List ℕ) (s : Slot) → slot_of hs f ≡ None → length (with_slot hs f s) ≡ length hs + 1
length-with_new [] f s e = refl
length-with_new (h ∷ hs) f s e =
    by_test (same_bytes h.file f)
    (λ t. let q = rw t at e in absurd (cc))
    (λ t. by_test (is_before f h.file)
    (λ u. rw (t, u) (omega arith))
    (λ u. rw (t, u) (ap suc (length-with_new hs f s (rw t at e)) ∙ omega arith)))

pub length-with_old : (hs : List Held) (f : List ℕ) (s t : Slot) → is_rising hs ≡ true → slot_of hs f ≡ Some t → length (with_slot hs f s) ≡ length hs
length-with_old [] f s t r e = cc
length-with_old (h ∷ hs) f s t r e =
    by_test (same_bytes h.file f)
    (λ u. rw u refl)
    (λ u. by_test (is_before f h.file)
    (λ v. let none = none-before (h ∷ hs) f v r in absurd (cc))
    (λ v. rw (u, v) (ap suc (length-with_old hs f s t (both _ _ r).1 (rw u at e)))))

here-read : (hs : List Held) (f : List ℕ) (p : ℕ) (x : Held) → p ≡ place_of hs f → p < length hs → x ≡ get_or hs p x → is_here hs f ≡ same_bytes x.file f
here-read hs f p x e l r = here-at hs f x (omega arith) ∙ ap (λ (h : Held). same_bytes h.file f) (sym (r ∙ ap (λ q. get_or hs q x) e))

-- the entry that was read at the place decides whether the file stands there
pub stands : (hs : List Held) (f : List ℕ) (p : ℕ) (x : Held) → p ≡ place_of hs f → p < length hs → x ≡ get_or hs p x → same_bytes x.file f ≡ true →
    StandsAt hs f p
stands hs f p x e l r t = record { place = e; within = l; here = here-read hs f p x e l r ∙ t }

pub goes_in : (hs : List Held) (f : List ℕ) (p : ℕ) (x : Held) → p ≡ place_of hs f → p < length hs → x ≡ get_or hs p x → same_bytes x.file f ≡ false →
    GoesInAt hs f p
goes_in hs f p x e l r t = record { place = e; within = omega arith; absent = here-read hs f p x e l r ∙ t }

pub goes_in-end : (hs : List Held) (f : List ℕ) (p : ℕ) → p ≡ place_of hs f → p ≡ length hs → GoesInAt hs f p
goes_in-end hs f p e l = record { place = e; within = omega arith; absent = here-end hs f (omega arith) }

pub slot-stands : (hs : List Held) (f : List ℕ) (p : ℕ) (x : Held) → StandsAt hs f p → x ≡ get_or hs p x → Some x.slot ≡ slot_of hs f
slot-stands hs f p x s r = sym (slot-some hs f x s.here ∙ ap (λ (h : Held). Some h.slot) (sym (r ∙ ap (λ q. get_or hs q x) s.place)))

pub slot-goes_in : (hs : List Held) (f : List ℕ) (p : ℕ) → GoesInAt hs f p → is_rising hs ≡ true → None ≡ slot_of hs f
slot-goes_in hs f p g r = sym (slot-none hs f r g.absent)

-- the list is the other one with this entry
pub record Placed (old : List Held) (f : List ℕ) (s : Slot) (new : List Held) : Type 0 where
  pub same : new ≡ with_slot old f s

-- the file that stands at a place is the one sought
file-stands : (hs : List Held) (f : List ℕ) (p : ℕ) (d : Held) → StandsAt hs f p → (get_or hs p d).file ≡ f
file-stands hs f p d at =
    let here = here-at hs f d (let e = at.place in let w = at.within in omega arith) in
    same-eq (get_or hs p d).file f (ap (λ q. same_bytes (get_or hs q d).file f) at.place ∙ sym here ∙ at.here)

pub placed-set : (hs : List Held) (f : List ℕ) (s : Slot) (p : ℕ) (new : List Held) → StandsAt hs f p →
    new ≡ set hs p (record (get_or hs p blank) { slot = s }) → Placed hs f s new
placed-set hs f s p new at n = record {
  same = n ∙ ap (λ g. set hs p (record { file = g; slot = s })) (file-stands hs f p blank at)
      ∙ ap (λ q. set hs q (record { file = f; slot = s })) at.place ∙ sym (with-set hs f s at.here);
}

pub placed-insert : (hs : List Held) (f : List ℕ) (s : Slot) (p : ℕ) (new : List Held) → GoesInAt hs f p →
    new ≡ insert hs p (record { file = f; slot = s }) → Placed hs f s new
placed-insert hs f s p new at n = record { same = n ∙ ap (λ q. insert hs q (record { file = f; slot = s })) at.place ∙ sym (with-insert hs f s at.absent) }

pub rising-placed : {hs : List Held} {f : List ℕ} {s : Slot} {new : List Held} → Placed hs f s new → is_rising hs ≡ true → is_rising new ≡ true
rising-placed {hs} {f} {s} {new} p r = ap is_rising p.same ∙ rising-with hs f s r

pub has_entry-stands : (hs : List Held) (f : List ℕ) (p : ℕ) → StandsAt hs f p → has_entry hs f ≡ true
has_entry-stands hs f p s = ap is_entry (slot-some hs f blank s.here)

pub has_entry-goes_in : (hs : List Held) (f : List ℕ) (p : ℕ) → GoesInAt hs f p → is_rising hs ≡ true → has_entry hs f ≡ false
has_entry-goes_in hs f p g r = ap is_entry (slot-none hs f r g.absent)

-- a file that can be set and has no entry finds room
pub room_left : (store : Store) (f : List ℕ) → None ≡ slot_of store.files f → IsTrue (can_set store f) →
    (length store.files < MOST_ENTRIES) × (length store.files < store.room)
room_left store f e may = let none : has_entry store.files f ≡ false = ap is_entry (sym e) in (grind (arith, nat_tests), grind (arith, nat_tests))

-- the file has the slot that was set for it, and every other file what it had
pub slot-with : (hs : List Held) (t : List ℕ) (s : Slot) (f : List ℕ) → slot_of (with_slot hs t s) f ≡ (if same_bytes t f then Some s else slot_of hs f)
slot-with [] t s f = refl
slot-with (h ∷ hs) t s f =
    by_test (same_bytes h.file t)
    (λ e. rw e (by_test (same_bytes t f) (λ u. rw u refl) (λ u. rw (u, other h.file t f e u) refl)))
    (λ e. by_test (is_before t h.file)
    (λ u. rw (e, u) refl)
    (λ u. rw (e, u) (by_test (same_bytes h.file f)
    (λ v. rw (v, differs h.file t f e v) refl)
    (λ v. rw v (slot-with hs t s f)))))
  where
    other : (a b c : List ℕ) → same_bytes a b ≡ true → same_bytes b c ≡ false → same_bytes a c ≡ false
    other a b c e u = rw (same-eq a b e) u

    differs : (a b c : List ℕ) → same_bytes a b ≡ false → same_bytes a c ≡ true → same_bytes b c ≡ false
    differs a b c e u = by_test (same_bytes b c) (λ v. let p = same-eq a c u in let q = same-eq b c v in
        let r : same_bytes a b ≡ true = rw (p ∙ sym q) (same-refl b) in absurd (cc)) (λ v. v)

pub length-with_least : (hs : List Held) (f : List ℕ) (s : Slot) → length hs ≤ length (with_slot hs f s)
length-with_least [] f s = omega arith
length-with_least (h ∷ hs) f s =
    let P : List Held → Type 0 = λ zs. length (h ∷ hs) ≤ length zs in
    if_both P (same_bytes h.file f) _ _ (λ _. omega arith) (λ _. if_both P (is_before f h.file) _ _ (λ _. omega arith)
    (λ _. omega (arith, length-with_least hs f s)))

-- a test that holds alike at each file holds alike of a list
pub list_all-same : (p q : List ℕ → Bool) → ((f : List ℕ) → p f ≡ q f) → (fs : List (List ℕ)) → list_all p fs ≡ list_all q fs
list_all-same p q e [] = refl
list_all-same p q e (f ∷ fs) = rw (e f, list_all-same p q e fs) refl

-- what has an entry, and what is a tombstone, once bytes stand for a file
pub entries-with : (hs : List Held) (t : List ℕ) (b : List ℕ) (fs : List (List ℕ)) →
    list_all (λ f. same_bytes t f || has_entry hs f) fs ≡ list_all (has_entry (with_slot hs t (Some b))) fs
entries-with hs t b fs = list_all-same _ _ (λ f. sym (ap is_entry (slot-with hs t (Some b) f) ∙ either (same_bytes t f) (slot_of hs f))) fs where
  either : (a : Bool) (o : Option Slot) → is_entry (if a then Some (Some b) else o) ≡ (a || is_entry o)
  either true o = refl
  either false o = refl

pub tombs-with : (hs : List Held) (t : List ℕ) (b : List ℕ) (fs : List (List ℕ)) →
    list_all (λ f. not (same_bytes t f) && has_tomb hs f) fs ≡ list_all (has_tomb (with_slot hs t (Some b))) fs
tombs-with hs t b fs = list_all-same _ _ (λ f. sym (ap is_tomb (slot-with hs t (Some b) f) ∙ either (same_bytes t f) (slot_of hs f))) fs where
  either : (a : Bool) (o : Option Slot) → is_tomb (if a then Some (Some b) else o) ≡ (not a && is_tomb o)
  either true o = refl
  either false o = refl
