-- What holds of some item of a list, by cases on the list, so that it computes on written lists; std's `Any` is by index.
use Rattle.std.proofs.Common.{◌≡◌, ◌⊎◌, inl, inr, ℕ, zero, suc, Bool, not, true, false, Some, List, [], ◌∷◌, ◌++◌, filter, take, drop}
use Rattle.std.proofs.Common.{slice_get, Contains, refl, subst, sym, arith}
use Rattle.std.proofs.lemmas.Bool.{cases_Bool, cond-true, cond-false, not_from_true, not_from_false}

abbrev pub Has : {A : Type 0} → (A → Type 0) → List A → Type 0
Has P [] = ⊥
Has P (x ∷ xs) = P x ⊎ Has P xs

module _ {A : Type 0} (P : A → Type 0) where
  pub Has-left : (xs ys : List A) → Has P xs → Has P (xs ++ ys)
  Has-left [] ys h = absurd h
  Has-left (x ∷ xs) ys (inl p) = inl p
  Has-left (x ∷ xs) ys (inr h) = inr (Has-left xs ys h)

  pub Has-right : (xs ys : List A) → Has P ys → Has P (xs ++ ys)
  Has-right [] ys h = h
  Has-right (x ∷ xs) ys h = inr (Has-right xs ys h)

  pub Has-append : (xs ys : List A) → Has P (xs ++ ys) → Has P xs ⊎ Has P ys
  Has-append [] ys h = inr h
  Has-append (x ∷ xs) ys (inl p) = inl (inl p)
  Has-append (x ∷ xs) ys (inr h) = elim (Has-append xs ys h) [ inl k ↦ inl (inr k) | inr k ↦ inr k ]

  pub Has-weaker : (Q : A → Type 0) (xs : List A) → ((x : A) → P x → Q x) → Has P xs → Has Q xs
  Has-weaker Q [] f h = absurd h
  Has-weaker Q (x ∷ xs) f (inl p) = inl (f x p)
  Has-weaker Q (x ∷ xs) f (inr h) = inr (Has-weaker Q xs f h)

  pub Has-contains : (xs : List A) (x : A) → Contains xs x → P x → Has P xs
  Has-contains [] x c p = let lt = c.1 in absurd (omega arith)
  Has-contains (y ∷ ys) x (zero, lt, e) p = inl (subst P (sym e) p)
  Has-contains (y ∷ ys) x (suc k, lt, e) p = inr (Has-contains ys x (k, omega arith, e) p)

  -- what a filter takes away, and what it leaves
  pub Has-split : (t : A → Bool) (xs : List A) → Has P xs → Has P (filter t xs) ⊎ Has P (filter (λ x. not (t x)) xs)
  Has-split t [] h = absurd h
  Has-split t (x ∷ xs) h = elim (cases_Bool (t x)) [
    | inl e ↦ let no' : not (t x) ≡ false = not_from_true (t x) e in
        subst (λ ys. Has P ys ⊎ Has P (filter (λ y. not (t y)) (x ∷ xs))) (sym (cond-true (t x) (x ∷ filter t xs) (filter t xs) e))
        (subst (λ ys. Has P (x ∷ filter t xs) ⊎ Has P ys) (sym (cond-false (not (t x)) (x ∷ filter (λ y. not (t y)) xs) (filter (λ y. not (t y)) xs) no'))
        (elim h [ inl p ↦ inl (inl p) | inr k ↦ elim (Has-split t xs k) [ inl a ↦ inl (inr a) | inr b ↦ inr b ] ]))
    | inr e ↦ let yes' : not (t x) ≡ true = not_from_false (t x) e in
        subst (λ ys. Has P ys ⊎ Has P (filter (λ y. not (t y)) (x ∷ xs))) (sym (cond-false (t x) (x ∷ filter t xs) (filter t xs) e))
        (subst (λ ys. Has P (filter t xs) ⊎ Has P ys) (sym (cond-true (not (t x)) (x ∷ filter (λ y. not (t y)) xs) (filter (λ y. not (t y)) xs) yes'))
        (elim h [ inl p ↦ inr (inl p) | inr k ↦ elim (Has-split t xs k) [ inl a ↦ inl a | inr b ↦ inr (inr b) ] ]))
  ]

  -- all but one place
  pub Has-without : (xs : List A) (n : ℕ) (x : A) → slice_get xs n ≡ Some x → Has P xs → P x ⊎ Has P (take n xs ++ drop (suc n) xs)
  Has-without [] n x e h = absurd h
  Has-without (y ∷ ys) zero x e (inl p) = let same : y ≡ x = cc in inl (subst P same p)
  Has-without (y ∷ ys) zero x e (inr h) = inr h
  Has-without (y ∷ ys) (suc n) x e (inl p) = inr (inl p)
  Has-without (y ∷ ys) (suc n) x e (inr h) = elim (Has-without ys n x e h) [ inl p ↦ inl p | inr k ↦ inr (inr k) ]

-- the item itself
pub record Found {A : Type 0} (P : A → Type 0) (xs : List A) : Type 0 where
  pub item : A
  pub inside : Contains xs item
  pub is : P item

pub found : {A : Type 0} (P : A → Type 0) (xs : List A) → Has P xs → Found P xs
found P [] h = absurd h
found P (x ∷ xs) (inl p) = record { item = x; inside = (0, omega arith, refl); is = p }
found P (x ∷ xs) (inr h) = let rest = found P xs h in let lt = rest.inside.1 in
    record { item = rest.item; inside = (suc rest.inside.0, omega arith, rest.inside.2); is = rest.is }
