-- The order of identifiers: it is that of a dictionary, so of two that differ one comes first.
use Rattle.std.proofs.Common.{◌≡◌, ℕ, Bool, true, false, ◌&&◌, List, [], ◌∷◌, refl, arith}
use Rattle.std.proofs.lemmas.Bool.Decides.{nat_tests, Decides-eqb}
use Rattle.ring_math.specs.Bytewise.{same_bytes, is_before}

both : (a b : Bool) → a && b ≡ true → (a ≡ true) × (b ≡ true)
both true b e = (refl, e)
both false b e = cc

pub same-refl : (a : List ℕ) → same_bytes a a ≡ true
same-refl [] = refl
same-refl (x ∷ xs) = let e = same-refl xs in grind (arith, nat_tests)

pub same-eq : (a b : List ℕ) → same_bytes a b ≡ true → a ≡ b
same-eq [] [] e = refl
same-eq [] (y ∷ ys) e = cc
same-eq (x ∷ xs) [] e = cc
same-eq (x ∷ xs) (y ∷ ys) e = let p = (Decides-eqb x y).0 (both _ _ e).0 in let q = same-eq xs ys (both _ _ e).1 in cc

-- of two that differ, one comes before the other
pub before-else : (a b : List ℕ) → is_before a b ≡ false → same_bytes a b ≡ false → is_before b a ≡ true
before-else [] (y ∷ ys) e f = cc
before-else [] [] e f = cc
before-else (x ∷ xs) [] e f = refl
before-else (x ∷ xs) (y ∷ ys) e f = let h = before-else xs ys in grind (arith, nat_tests, h)

-- one that comes before another is not that one
pub before-not_same : (a b : List ℕ) → is_before a b ≡ true → same_bytes a b ≡ false
before-not_same [] (y ∷ ys) e = refl
before-not_same [] [] e = cc
before-not_same (x ∷ xs) [] e = refl
before-not_same (x ∷ xs) (y ∷ ys) e = let h = before-not_same xs ys in grind (arith, nat_tests, h)

pub after-not_same : (a b : List ℕ) → is_before b a ≡ true → same_bytes a b ≡ false
after-not_same (y ∷ ys) [] e = refl
after-not_same [] [] e = cc
after-not_same [] (x ∷ xs) e = cc
after-not_same (x ∷ xs) (y ∷ ys) e = let h = after-not_same xs ys in grind (arith, nat_tests, h)

pub before-asym : (a b : List ℕ) → is_before a b ≡ true → is_before b a ≡ false
before-asym [] (y ∷ ys) e = refl
before-asym [] [] e = refl
before-asym (x ∷ xs) [] e = cc
before-asym (x ∷ xs) (y ∷ ys) e = let h = before-asym xs ys in grind (arith, nat_tests, h)

pub before-trans : (a b c : List ℕ) → is_before a b ≡ true → is_before b c ≡ true → is_before a c ≡ true
before-trans [] (y ∷ ys) (z ∷ zs) e f = refl
before-trans [] (y ∷ ys) [] e f = cc
before-trans [] [] c e f = cc
before-trans (x ∷ xs) [] c e f = cc
before-trans (x ∷ xs) (y ∷ ys) [] e f = cc
before-trans (x ∷ xs) (y ∷ ys) (z ∷ zs) e f = let h = before-trans xs ys zs in grind (arith, nat_tests, h)
