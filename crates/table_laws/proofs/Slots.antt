-- What stands for a file in a list of files after one is put, reclaimed or buried; it rests on no order of the list.
use Rattle.std.proofs.Common.{◌≡◌, ◌≢◌, ◌⊎◌, inl, inr, ℕ, true, false, ◌==◌, if◌then◌else◌, Option, Some, None, List, [], ◌∷◌, refl, sym, subst, ap, ◌∙◌}
use Rattle.std.proofs.lemmas.Bool.{cases_Bool, cond_both, cond-true, cond-false, and_parts, and_from}
use Rattle.std.proofs.lemmas.Bool.Decides.{Decides-eqb}
use Rattle.ring_math.specs.Names.{FileId}
use Rattle.ring_math.specs.Bytewise.{same_bytes, is_before}
use Rattle.ring_math.specs.Files.{Slot, slot_of, with_slot, has_room, buried_at, buried, buried_all}
use Rattle.ring_math.specs.declared.file.Held.{Held}
use Rattle.overlay_rules.proofs.Each.{Each}

-- ---- bytes that are the same

pub same-itself : (a : List ℕ) → same_bytes a a ≡ true
same-itself [] = refl
same-itself (x ∷ xs) = and_from (x == x) (same_bytes xs xs) ((Decides-eqb x x).1 refl) (same-itself xs)

cons_is : (x y : ℕ) (xs ys : List ℕ) → x ≡ y → xs ≡ ys → x ∷ xs ≡ y ∷ ys
cons_is x y xs ys e f = ap (λ z. z ∷ xs) e ∙ ap (λ zs. y ∷ zs) f

pub same-is : (a b : List ℕ) → same_bytes a b ≡ true → a ≡ b
same-is [] [] e = refl
same-is [] (y ∷ ys) e = cc
same-is (x ∷ xs) [] e = cc
same-is (x ∷ xs) (y ∷ ys) e = let p = and_parts (x == y) (same_bytes xs ys) e in cons_is x y xs ys ((Decides-eqb x y).0 p.0) (same-is xs ys p.1)

pub same-other : (a b : List ℕ) → a ≢ b → same_bytes a b ≡ false
same-other a b ne = elim (cases_Bool (same_bytes a b)) [ inl e ↦ absurd (ne (same-is a b e)) | inr e ↦ e ]

pub same-differs : (a b : List ℕ) → same_bytes a b ≡ false → a ≢ b
same-differs a b e f = let itself : same_bytes a b ≡ true = subst (λ c. same_bytes a c ≡ true) f (same-itself a) in cc

pub cases_bytes : (a b : List ℕ) → (a ≡ b) ⊎ (a ≢ b)
cases_bytes a b = elim (cases_Bool (same_bytes a b)) [ inl e ↦ inl (same-is a b e) | inr e ↦ inr (same-differs a b e) ]

-- ---- one entry

abbrev pub held : FileId → Slot → Held
held file slot = record { file = file; slot = slot }

slot-first : (h : Held) (hs : List Held) (f : FileId) → h.file ≡ f → slot_of (h ∷ hs) f ≡ Some h.slot
slot-first h hs f e = cond-true (same_bytes h.file f) (Some h.slot) (slot_of hs f) (subst (λ g. same_bytes h.file g ≡ true) e (same-itself h.file))

slot-later : (h : Held) (hs : List Held) (f : FileId) → h.file ≢ f → slot_of (h ∷ hs) f ≡ slot_of hs f
slot-later h hs f ne = cond-false (same_bytes h.file f) (Some h.slot) (slot_of hs f) (same-other h.file f ne)

with_slot-cases : (P : List Held → Type 0) (h : Held) (hs : List Held) (f : FileId) (s : Slot) → (h.file ≡ f → P (held f s ∷ hs)) → P (held f s ∷ (h ∷ hs)) →
    (h.file ≢ f → P (h ∷ with_slot hs f s)) →
    P (with_slot (h ∷ hs) f s)
with_slot-cases P h hs f s here before later =
    cond_both (same_bytes h.file f) (held f s ∷ hs) (if is_before f h.file then held f s ∷ (h ∷ hs) else h ∷ with_slot hs f s) P
    (λ e. here (same-is h.file f e))
    (λ e. cond_both (is_before f h.file) (held f s ∷ (h ∷ hs)) (h ∷ with_slot hs f s) P (λ _. before) (λ _. later (same-differs h.file f e)))

pub slot-itself : (hs : List Held) (f : FileId) (s : Slot) → slot_of (with_slot hs f s) f ≡ Some s
slot-itself [] f s = slot-first (held f s) [] f refl
slot-itself (h ∷ hs) f s = with_slot-cases (λ zs. slot_of zs f ≡ Some s) h hs f s (λ _. slot-first (held f s) hs f refl) (slot-first (held f s) (h ∷ hs) f refl)
    (λ ne. slot-later h (with_slot hs f s) f ne ∙ slot-itself hs f s)

slot-under : (h : Held) (xs ys : List Held) (g : FileId) → slot_of xs g ≡ slot_of ys g → slot_of (h ∷ xs) g ≡ slot_of (h ∷ ys) g
slot-under h xs ys g e = ap (λ o. if same_bytes h.file g then Some h.slot else o) e

pub slot-other : (hs : List Held) (f g : FileId) (s : Slot) → f ≢ g → slot_of (with_slot hs f s) g ≡ slot_of hs g
slot-other [] f g s ne = slot-later (held f s) [] g ne
slot-other (h ∷ hs) f g s ne = with_slot-cases (λ zs. slot_of zs g ≡ slot_of (h ∷ hs) g) h hs f s
    (λ e. slot-later (held f s) hs g ne ∙ sym (slot-later h hs g (λ d. ne (sym e ∙ d)))) (slot-later (held f s) (h ∷ hs) g ne)
    (λ _. slot-under h (with_slot hs f s) hs g (slot-other hs f g s ne))

-- ---- what holds of each entry

module _ (P : Held → Type 0) where
  pub Each-with_slot : (hs : List Held) (f : FileId) (s : Slot) → P (held f s) → Each P hs → Each P (with_slot hs f s)
  Each-with_slot [] f s new old = (new, tt)
  Each-with_slot (h ∷ hs) f s new old = with_slot-cases (Each P) h hs f s (λ _. (new, old.1)) (new, old) (λ _. (old.0, Each-with_slot hs f s new old.1))

  entry_at : (h : Held) (f : FileId) (s : Slot) → h.file ≡ f → Some h.slot ≡ Some s → P h → P (held f s)
  entry_at h f s d is p = let slot : h.slot ≡ s = cc in subst P (λ j. record { file = d j; slot = slot j }) p

  pub Each-slot : (hs : List Held) (f : FileId) (s : Slot) → Each P hs → slot_of hs f ≡ Some s → P (held f s)
  Each-slot [] f s old e = cc
  Each-slot (h ∷ hs) f s old e =
      elim (cases_bytes h.file f) [
        | inl d ↦ entry_at h f s d (sym (slot-first h hs f d) ∙ e) old.0
        | inr d ↦ Each-slot hs f s old.1 (sym (slot-later h hs f d) ∙ e)
      ]

  each_buried_at : (hs : List Held) (f : FileId) (o : Option Slot) → P (held f None) → Each P hs → Each P (buried_at hs f o)
  each_buried_at hs f None new old = cond_both (has_room hs) (with_slot hs f None) hs (Each P) (λ _. Each-with_slot hs f None new old) (λ _. old)
  each_buried_at hs f (Some s) new old = Each-with_slot hs f None new old

  pub Each-buried_all : (hs : List Held) (tombs : List FileId) → Each (λ f. P (held f None)) tombs → Each P hs → Each P (buried_all hs tombs)
  Each-buried_all hs [] new old = old
  Each-buried_all hs (f ∷ fs) new old = Each-buried_all (buried hs f) fs new.1 (each_buried_at hs f (slot_of hs f) new.0 old)

-- ---- entries last

-- what stood stands, or is a tombstone
pub record Lasts (xs ys : List Held) : Type 0 where
  pub lasts : (f : FileId) (s : Slot) → slot_of xs f ≡ Some s → (slot_of ys f ≡ Some s) ⊎ (slot_of ys f ≡ Some None)

pub Lasts-same : (xs ys : List Held) → ys ≡ xs → Lasts xs ys
Lasts-same xs ys e = record { lasts = λ f s h. inl (ap (λ hs. slot_of hs f) e ∙ h) }

pub Lasts-trans : (xs ys zs : List Held) → Lasts xs ys → Lasts ys zs → Lasts xs zs
Lasts-trans xs ys zs a b = record {
  lasts = λ f s h. elim (a.lasts f s h) [
    | inl e ↦ b.lasts f s e
    | inr e ↦ elim (b.lasts f None e) [ inl d ↦ inr d | inr d ↦ inr d ]
  ];
}

pub Lasts-put : (hs : List Held) (f : FileId) (s : Slot) → slot_of hs f ≡ None → Lasts hs (with_slot hs f s)
Lasts-put hs f s none = record {
  lasts = λ g t h. elim (cases_bytes f g) [
    | inl e ↦ let clash : slot_of hs f ≡ Some t = subst (λ k. slot_of hs k ≡ Some t) (sym e) h in cc
    | inr ne ↦ inl (slot-other hs f g s ne ∙ h)
  ];
}

pub Lasts-tomb : (hs : List Held) (f : FileId) → Lasts hs (with_slot hs f None)
Lasts-tomb hs f = record {
  lasts = λ g t h. elim (cases_bytes f g) [
    | inl e ↦ inr (subst (λ k. slot_of (with_slot hs f None) k ≡ Some None) e (slot-itself hs f None))
    | inr ne ↦ inl (slot-other hs f g None ne ∙ h)
  ];
}

lasts_buried_at : (hs : List Held) (f : FileId) (o : Option Slot) → Lasts hs (buried_at hs f o)
lasts_buried_at hs f None = cond_both (has_room hs) (with_slot hs f None) hs (Lasts hs) (λ _. Lasts-tomb hs f) (λ _. Lasts-same hs hs refl)
lasts_buried_at hs f (Some s) = Lasts-tomb hs f

pub Lasts-buried_all : (hs : List Held) (tombs : List FileId) → Lasts hs (buried_all hs tombs)
Lasts-buried_all hs [] = Lasts-same hs hs refl
Lasts-buried_all hs (f ∷ fs) = Lasts-trans hs (buried hs f) (buried_all (buried hs f) fs) (lasts_buried_at hs f (slot_of hs f))
    (Lasts-buried_all (buried hs f) fs)
