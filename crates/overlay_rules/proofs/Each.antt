-- What holds of each item of a list, by cases on the list, so that it computes on written lists; std's `All` is by index.
use Rattle.std.proofs.Common.{◌≡◌, ℕ, zero, suc, Bool, List, [], ◌∷◌, ◌++◌, ◌<◌, map, filter, take, drop, Some, slice_get, get_or, length, Contains, All, refl}
use Rattle.std.proofs.Common.{subst, arith}
use Rattle.std.proofs.lemmas.Bool.{cond_both}

abbrev pub Each : {A : Type 0} → (A → Type 0) → List A → Type 0
Each P [] = Unit {0}
Each P (x ∷ xs) = P x × Each P xs

module _ {A : Type 0} (P : A → Type 0) where
  pub Each-append : (xs ys : List A) → Each P xs → Each P ys → Each P (xs ++ ys)
  Each-append [] ys h t = t
  Each-append (x ∷ xs) ys h t = (h.0, Each-append xs ys h.1 t)

  pub Each-map : {B : Type 0} (f : B → A) (xs : List B) → Each (λ x. P (f x)) xs → Each P (map f xs)
  Each-map f [] h = tt
  Each-map f (x ∷ xs) h = (h.0, Each-map f xs h.1)

  pub Each-filter : (t : A → Bool) (xs : List A) → Each P xs → Each P (filter t xs)
  Each-filter t [] h = tt
  Each-filter t (x ∷ xs) h = cond_both (t x) _ _ (Each P) (λ _. (h.0, Each-filter t xs h.1)) (λ _. Each-filter t xs h.1)

  pub Each-take : (n : ℕ) (xs : List A) → Each P xs → Each P (take n xs)
  Each-take zero xs h = tt
  Each-take (suc n) [] h = tt
  Each-take (suc n) (x ∷ xs) h = (h.0, Each-take n xs h.1)

  pub Each-drop : (n : ℕ) (xs : List A) → Each P xs → Each P (drop n xs)
  Each-drop zero xs h = h
  Each-drop (suc n) [] h = tt
  Each-drop (suc n) (x ∷ xs) h = Each-drop n xs h.1

  pub Each-weaker : (Q : A → Type 0) (xs : List A) → ((x : A) → P x → Q x) → Each P xs → Each Q xs
  Each-weaker Q [] f h = tt
  Each-weaker Q (x ∷ xs) f h = (f x h.0, Each-weaker Q xs f h.1)

  pub Each-both : (Q R : A → Type 0) (xs : List A) → ((x : A) → P x → Q x → R x) → Each P xs → Each Q xs → Each R xs
  Each-both Q R [] f h t = tt
  Each-both Q R (x ∷ xs) f h t = (f x h.0 t.0, Each-both Q R xs f h.1 t.1)

  pub Each-slice_get : (xs : List A) (n : ℕ) (x : A) → Each P xs → slice_get xs n ≡ Some x → P x
  Each-slice_get [] n x h e = cc
  Each-slice_get (y ∷ ys) zero x h e = let same : y ≡ x = cc in subst P same h.0
  Each-slice_get (y ∷ ys) (suc n) x h e = Each-slice_get ys n x h.1 e

  pub Each-get_or : (xs : List A) (n : ℕ) (d : A) → Each P xs → n < length xs → P (get_or xs n d)
  Each-get_or [] n d h lt = absurd (omega arith)
  Each-get_or (y ∷ ys) zero d h lt = h.0
  Each-get_or (y ∷ ys) (suc n) d h lt = Each-get_or ys n d h.1 (omega arith)

  pub Each-contains : (xs : List A) (x : A) → Each P xs → Contains xs x → P x
  Each-contains xs x h c = subst P c.2 (Each-get_or xs c.0 x h c.1)

  pub Each-all : (xs : List A) → Each P xs → All P xs
  Each-all xs h = λ n d lt. Each-get_or xs n d h lt

  pub Each-from_all : (xs : List A) → All P xs → Each P xs
  Each-from_all [] h = tt
  Each-from_all (x ∷ xs) h = (h 0 x (omega arith), Each-from_all xs (λ n d lt. h (suc n) d (omega arith)))

-- each item is an item
pub Each-itself : {A : Type 0} (xs : List A) → Each (Contains xs) xs
Each-itself xs = Each-from_all (Contains xs) xs (λ n d lt. (n, lt, all_same xs n d lt)) where
  all_same : {A : Type 0} (xs : List A) (n : ℕ) (d : A) → n < length xs → get_or xs n (get_or xs n d) ≡ get_or xs n d
  all_same [] n d lt = absurd (omega arith)
  all_same (x ∷ xs) zero d lt = refl
  all_same (x ∷ xs) (suc n) d lt = all_same xs n d (omega arith)
