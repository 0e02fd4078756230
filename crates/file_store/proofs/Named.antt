-- Lists of files: which files they name, and those that rise name no file twice.
use Rattle.std.proofs.Common.{◌≡◌, ℕ, ◌+◌, ◌<◌, ◌≤◌, Bool, true, false, ◌&&◌, ◌||◌, List, [], ◌∷◌, length, get_or, take, drop, take-append-drop}
use Rattle.std.proofs.Common.{take_all, length-drop, ◌-◌, zero, suc, refl, sym, ◌∙◌, ap, arith, add-one}
use Rattle.std.proofs.lemmas.List.Folds.{list_any-append}
use Rattle.ring_math.specs.Bytewise.{same_bytes, is_before}
use Rattle.file_store.specs.Burial.{is_named, comes_first, rises}
use Rattle.file_store.proofs.Dictionary.{before-trans, before-not_same}

both : (a b : Bool) → a && b ≡ true → (a ≡ true) × (b ≡ true)
both true b e = (refl, e)
both false b e = cc

-- the first two decide, and then the rest
rises-first : (fs : List (List ℕ)) (i : ℕ) → suc i < length fs →
    rises (drop i fs) ≡ (is_before (get_or fs i []) (get_or fs (suc i) []) && rises (drop (suc i) fs))
rises-first [] i l = absurd (omega arith)
rises-first (f ∷ []) i l = absurd (omega arith)
rises-first (f ∷ g ∷ fs) zero l = refl
rises-first (f ∷ g ∷ fs) (suc i) l = rises-first (g ∷ fs) i (omega arith)

pub rises-turn : (fs : List (List ℕ)) (i : ℕ) → i + 1 < length fs →
    rises (drop i fs) ≡ (is_before (get_or fs i []) (get_or fs (i + 1) []) && rises (drop (i + 1) fs))
rises-turn fs i l = rw add-one (rises-first fs i (omega arith))

-- one file alone rises
pub rises-end : (fs : List (List ℕ)) (i : ℕ) → length fs ≤ i + 1 → rises (drop i fs) ≡ true
rises-end [] zero l = refl
rises-end [] (suc i) l = refl
rises-end (f ∷ []) zero l = refl
rises-end (f ∷ g ∷ fs) zero l = absurd (omega arith)
rises-end (f ∷ fs) (suc i) l = rises-end fs i (omega arith)

comes_first-later : (f : List ℕ) (fs : List (List ℕ)) (i : ℕ) → comes_first f fs ≡ true → rises fs ≡ true → i < length fs → is_before f (get_or fs i []) ≡ true
comes_first-later f [] i c r l = absurd (omega arith)
comes_first-later f (g ∷ gs) zero c r l = c
comes_first-later f (g ∷ []) (suc i) c r l = absurd (omega arith)
comes_first-later f (g ∷ h ∷ gs) (suc i) c r l = comes_first-later f (h ∷ gs) i (before-trans f g h c (both _ _ r).0) (both _ _ r).1 (omega arith)

-- of files that rise, none was named before
pub rises-new : (fs : List (List ℕ)) (i : ℕ) → rises fs ≡ true → i < length fs → is_named (take i fs) (get_or fs i []) ≡ false
rises-new [] i r l = absurd (omega arith)
rises-new (f ∷ fs) zero r l = refl
rises-new (f ∷ fs) (suc i) r l =
    let parts = both (comes_first f fs) (rises fs) r in
    let first = before-not_same f (get_or fs i []) (comes_first-later f fs i parts.0 parts.1 (omega arith)) in
    rw first (rises-new fs i parts.1 (omega arith))

-- a list names what one of its two parts names
pub named-parts : (fs : List (List ℕ)) (n : ℕ) (f : List ℕ) → is_named fs f ≡ (is_named (take n fs) f || is_named (drop n fs) f)
named-parts fs n f = ap (λ gs. is_named gs f) (sym (take-append-drop n fs)) ∙ list_any-append (λ g. same_bytes g f) (take n fs) (drop n fs)

-- the part from n on, as a slice has it
rest : (fs : List (List ℕ)) (n : ℕ) → take (length fs - n) (drop n fs) ≡ drop n fs
rest fs n = take_all (length fs - n) (drop n fs) (omega (arith, length-drop n fs))

pub named-behind : (fs : List (List ℕ)) (n : ℕ) (f : List ℕ) → is_named (take (length fs - n) (drop n fs)) f ≡ true → is_named fs f ≡ true
named-behind fs n f e = named-parts fs n f ∙ right (is_named (take n fs) f) (ap (λ gs. is_named gs f) (sym (rest fs n)) ∙ e) where
  right : (a : Bool) {b : Bool} → b ≡ true → (a || b) ≡ true
  right true e = refl
  right false e = e

pub named-before : (fs : List (List ℕ)) (n : ℕ) (f : List ℕ) → is_named (take (length fs - n) (drop n fs)) f ≡ false → is_named fs f ≡ is_named (take n fs) f
named-before fs n f e = named-parts fs n f ∙ left (is_named (take n fs) f) (ap (λ gs. is_named gs f) (sym (rest fs n)) ∙ e) where
  left : (a : Bool) {b : Bool} → b ≡ false → (a || b) ≡ a
  left true e = refl
  left false e = e
