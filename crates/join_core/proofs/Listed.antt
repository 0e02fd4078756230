-- Lists that a loop makes of another, one item more at a time.
use Rattle.std.proofs.Common.{◌≡◌, ℕ, ◌+◌, ◌<◌, ◌≤◌, Bool, true, false, List, [], ◌∷◌, ◌++◌, length, get_or, take, map, filter, refl, sym, ◌∙◌, ap, arith}
use Rattle.std.proofs.Common.{zero, suc, drop, set, ◌||◌, ◌==◌, if◌then◌else◌}
use Rattle.std.proofs.Common.{append-nil, length-take-le, IsTrue, ◌↔◌}
use Rattle.std.specs.Bool.{OnTrue}
use Rattle.std.proofs.lemmas.List.Elements.{filter-append}
use Rattle.std.proofs.lemmas.List.Sums.{length-filter, count_by-le-length}
use Rattle.std.proofs.lemmas.List.{take_more, map-append, take-append-drop, length-append, length-map}
use Rattle.std.proofs.lemmas.Bool.{eqb-true}
use Rattle.ring_math.specs.declared.limits.TheConstants.{MOST_MEMBERS}
use Rattle.overlay_rules.specs.Joining.{answered_by}

pub map_more : {A B : Type 0} (f : A → B) (xs : List A) (i : ℕ) (x : A) → i < length xs → x ≡ get_or xs i x →
    map f (take (i + 1) xs) ≡ map f (take i xs) ++ f x ∷ []
map_more f xs i x l e =
    ap (map f) (take_more xs i x l) ∙ map-append f (take i xs) (get_or xs i x ∷ []) ∙ ap (λ y. map f (take i xs) ++ f y ∷ []) (sym e)

-- a list whose first elements were mapped
abbrev pub mapped : {A : Type 0} → (A → A) → ℕ → List A → List A
mapped f i xs = map f (take i xs) ++ drop i xs

mapped-suc : {A : Type 0} (f : A → A) (i : ℕ) (xs : List A) (d : A) → i < length xs →
    set (mapped f i xs) i (f (get_or (mapped f i xs) i d)) ≡ mapped f (suc i) xs
mapped-suc f i [] d lt = absurd (omega (arith, lt))
mapped-suc f zero (x ∷ xs) d lt = refl
mapped-suc f (suc i) (x ∷ xs) d lt = ap (λ ys. f x ∷ ys) (mapped-suc f i xs d (omega (arith, lt)))

-- the next is mapped in its place
pub mapped-more : {A : Type 0} (f : A → A) (i : ℕ) (xs : List A) (d : A) → i < length xs →
    set (mapped f i xs) i (f (get_or (mapped f i xs) i d)) ≡ mapped f (i + 1) xs
mapped-more f i xs d lt = let next : suc i ≡ i + 1 = omega arith in mapped-suc f i xs d lt ∙ ap (λ n. mapped f n xs) next

pub length-mapped : {A : Type 0} (f : A → A) (i : ℕ) (xs : List A) → length (mapped f i xs) ≡ length xs
length-mapped f i xs =
    length-append (map f (take i xs)) (drop i xs) ∙ ap (λ n. n + length (drop i xs)) (length-map (take i xs) f)
    ∙ sym (length-append (take i xs) (drop i xs)) ∙ ap length (take-append-drop i xs)

-- one that was probed, and whether it has answered
abbrev pub probe_of : ℕ → Bool → ℕ × Bool
probe_of x said = (x, said)

-- the mark stands where it stood, or where the probe is the sender's
pub marked : (x y : ℕ) (said b : Bool) → b ≡ (x == y) → answered_by y (probe_of x said) ≡ probe_of x (said || b)
marked x y said b e = by (x == y) said b e (eqb-true x y) where
  by : (t said b : Bool) → b ≡ t → (t ≡ true → x ≡ y) → (if t then probe_of y true else probe_of x said) ≡ probe_of x (said || b)
  by true true true e same = ap (λ z. probe_of z true) (sym (same refl))
  by true false true e same = ap (λ z. probe_of z true) (sym (same refl))
  by false true false e same = refl
  by false false false e same = refl
  by true said false e same = cc
  by false said true e same = cc

pub filter_more : {A : Type 0} (p : A → Bool) (xs : List A) (i : ℕ) (x : A) → i < length xs → x ≡ get_or xs i x → p x ≡ true →
    filter p (take (i + 1) xs) ≡ filter p (take i xs) ++ x ∷ []
filter_more p xs i x l e t =
    ap (filter p) (take_more xs i x l) ∙ filter-append p (take i xs) (get_or xs i x ∷ []) ∙ ap (λ y. filter p (take i xs) ++ filter p (y ∷ [])) (sym e)
    ∙ rw t refl

pub filter_as_before : {A : Type 0} (p : A → Bool) (xs : List A) (i : ℕ) (x : A) → i < length xs → x ≡ get_or xs i x → p x ≡ false →
    filter p (take (i + 1) xs) ≡ filter p (take i xs)
filter_as_before p xs i x l e t =
    ap (filter p) (take_more xs i x l) ∙ filter-append p (take i xs) (get_or xs i x ∷ []) ∙ ap (λ y. filter p (take i xs) ++ filter p (y ∷ [])) (sym e)
    ∙ rw t (append-nil (filter p (take i xs)))

-- a filter gives no more than it was given
pub length-filter-le : {A : Type 0} (p : A → Bool) (xs : List A) (i : ℕ) → i ≤ length xs → length (filter p (take i xs)) ≤ i
length-filter-le p xs i l = omega (arith, length-filter p (take i xs), count_by-le-length p (take i xs), length-take-le i xs l)

-- where there is room, a push adds the identifier
pub pushed : (old new : List ℕ) (y : ℕ) (r : Bool) → (IsTrue r ↔ (length old < MOST_MEMBERS)) → OnTrue r (new ≡ old ++ y ∷ []) → length old < MOST_MEMBERS →
    new ≡ old ++ y ∷ []
pushed old new y true answer added l = added
pushed old new y false answer added l = let never = answer.1 l in cc
