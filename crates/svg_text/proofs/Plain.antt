-- Words that are escaped have no letter left that begins or ends a piece.
use Rattle.std.proofs.Common.{◌≡◌, ℕ, Bool, true, false, List, [], ◌∷◌, ◌++◌, refl, ap}
use Rattle.std.specs.Prelude.{not, ◌==◌, ◌&&◌, ◌||◌, if◌then◌else◌, codes}
use Rattle.std.specs.List.{list_all}
use Rattle.svg_text.specs.Escaped.{escape, escaped, is_plain, is_printable}

-- one more in front
in_front : (b : Bool) (one all : Bool) → (one ≡ true → all ≡ true) → (b && one) ≡ true → (b && all) ≡ true
in_front true one all h e = h e
in_front false one all h e = e

list_all-both : {A : Type 0} (p : A → Bool) (xs ys : List A) → list_all p xs ≡ true → list_all p ys ≡ true → list_all p (xs ++ ys) ≡ true
list_all-both p [] ys h k = k
list_all-both p (x ∷ xs) ys h k = in_front (p x) (list_all p xs) (list_all p (xs ++ ys)) (λ e. list_all-both p xs ys e k) h

-- whichever of the tests of `escape` holds
chosen : (c : ℕ) (amp less more quote printable : Bool) → is_plain c ≡ (printable && not (less || (more || quote))) →
    list_all is_plain (if amp then codes "&amp;" else (if less then codes "&lt;" else (if more then codes "&gt;" else (if quote then codes "&quot;"
    else (if printable then c ∷ [] else codes "?"))))) ≡ true
chosen c true less more quote printable e = refl
chosen c false true more quote printable e = refl
chosen c false false true quote printable e = refl
chosen c false false false true printable e = refl
chosen c false false false false true e = ap (λ b. b && true) e
chosen c false false false false false e = refl

letter-plain : (c : ℕ) → list_all is_plain (escape c) ≡ true
letter-plain c = chosen c (c == 38) (c == 60) (c == 62) (c == 34) (is_printable c) refl

pub escaped-plain : (words : List ℕ) → list_all is_plain (escaped words) ≡ true
escaped-plain [] = refl
escaped-plain (c ∷ cs) = list_all-both is_plain (escape c) (escaped cs) (letter-plain c) (escaped-plain cs)
