-- How many pass a test: of a list that was mapped, and by two tests that agree but at one number.
use Rattle.std.proofs.Common.{◌≡◌, ◌≢◌, inl, inr, ℕ, ◌+◌, Bool, true, false, not, ◌==◌, cond, List, [], ◌∷◌, map, Contains, refl, sym, subst, ap, ◌∙◌, arith}
use Rattle.std.specs.List.{count_by}
use Rattle.std.proofs.lemmas.Bool.{cases_Bool, or_parts, and_parts}
use Rattle.std.proofs.lemmas.Bool.Decides.{Decides-eqb}
use Rattle.std.proofs.lemmas.List.Sums.{sum_by-cons}
use Rattle.ring_math.specs.Sides.{is_in}
use Rattle.ring_math.proofs.Membership.{Contains-cases, Contains-none}
use Rattle.overlay_rules.specs.Record.{all_differ}

pub count_by-cons : {A : Type 0} (p : A → Bool) (x : A) (xs : List A) → count_by p (x ∷ xs) ≡ cond (p x) 1 0 + count_by p xs
count_by-cons p x xs = sum_by-cons (λ y. cond (p y) 1 0) x xs

pub count_by-map : {A B : Type 0} (p : B → Bool) (f : A → B) (xs : List A) → count_by (λ x. p (f x)) xs ≡ count_by p (map f xs)
count_by-map p f [] = refl
count_by-map p f (x ∷ xs) =
    count_by-cons (λ y. p (f y)) x xs ∙ ap (λ n. cond (p (f x)) 1 0 + n) (count_by-map p f xs) ∙ sym (count_by-cons p (f x) (map f xs))

-- ---- two tests that agree but at x

not_in : (b : Bool) → not b ≡ true → b ≡ false
not_in true h = cc
not_in false h = refl

-- sums with x in front, and with another number
first_here : (a b m n : ℕ) → m ≡ n → (a + m) + b ≡ (b + n) + a
first_here a b m n e = omega arith

first_other : (a b m n c : ℕ) → m + b ≡ n + c → (a + m) + b ≡ (a + n) + c
first_other a b m n c e = omega arith

module _ (f h : ℕ → Bool) (x : ℕ) (agree : (y : ℕ) → y ≢ x → f y ≡ h y) where
  other : (y : ℕ) → (y == x) ≡ false → f y ≡ h y
  other y e = agree y (λ q. let itself : (y == x) ≡ true = (Decides-eqb y x).1 q in cc)

  -- they count the same where x does not stand
  count_by-none : (xs : List ℕ) → is_in xs x ≡ false → count_by f xs ≡ count_by h xs
  count_by-none [] e = refl
  count_by-none (y ∷ ys) e =
      let p = or_parts (y == x) (is_in ys x) e in
      count_by-cons f y ys ∙ ap (λ b. cond b 1 0 + count_by f ys) (other y p.0) ∙ ap (λ n. cond (h y) 1 0 + n) (count_by-none ys p.1)
      ∙ sym (count_by-cons h y ys)

  -- and where x stands once, their counts differ by what they say of x
  pub count_by-one : (xs : List ℕ) → all_differ xs ≡ true → Contains xs x → count_by f xs + cond (h x) 1 0 ≡ count_by h xs + cond (f x) 1 0
  count_by-one [] d c = absurd (Contains-none x c)
  count_by-one (y ∷ ys) d c =
      let p = and_parts (not (is_in ys y)) (all_differ ys) d in
      rw (count_by-cons f y ys, count_by-cons h y ys) (elim (cases_Bool (y == x)) [
        | inl e ↦ (let same : y ≡ x = (Decides-eqb y x).0 e in
            rw same (first_here (cond (f x) 1 0) (cond (h x) 1 0) (count_by f ys) (count_by h ys)
            (count_by-none ys (subst (λ z. is_in ys z ≡ false) same (not_in _ p.0)))))
        | inr e ↦ rw (other y e) (first_other (cond (h y) 1 0) (cond (h x) 1 0) (count_by f ys) (count_by h ys) (cond (f x) 1 0)
            (count_by-one ys p.1 (later ys y c e)))
      ]) where
        later : (ys : List ℕ) (y : ℕ) → Contains (y ∷ ys) x → (y == x) ≡ false → Contains ys x
        later ys y c e = elim (Contains-cases y ys x c) [
          | inl q ↦ (let itself : (y == x) ≡ true = (Decides-eqb y x).1 (sym q) in cc)
          | inr q ↦ q
        ]
