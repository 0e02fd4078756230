-- The closest of a list, one identifier more at a time, and of both sides of a leaf set.
use Rattle.std.proofs.Common.{◌≡◌, ℕ, suc, ◌+◌, ◌<◌, ◌⊎◌, true, false, List, [], ◌∷◌, ◌++◌, length, take, get_or, not, Option, Some}
use Rattle.std.proofs.Common.{sym, subst, ap, ◌∙◌, inl, inr, arith}
use Rattle.std.specs.List.{Contains}
use Rattle.std.proofs.lemmas.Bool.{cases_Bool, not_from_false, cond-true, cond-false}
use Rattle.std.proofs.lemmas.List.{take_more}
use Rattle.std.proofs.lemmas.List.Elements.{Contains-append_left, Contains-append_right, Contains-append_cases}
use Rattle.ring_math.specs.Nearer.{nearer_of, improves}
use Rattle.ring_math.specs.Ring.{is_nearer}
use Rattle.ring_math.specs.Sides.{is_in, also_of}
use Rattle.ring_math.proofs.Found.{Found, found_same, found_itself, either, found_both}
use Rattle.ring_math.proofs.Membership.{Contains-here, Contains-cases, Contains-none, Contains-filter, Contains-from_filter, Contains-is_in}
use Rattle.leaf_set.specs.Leaves.{Improves}

contains_more : (xs : List ℕ) (i x z : ℕ) → i < length xs → x ≡ get_or xs i x → Contains (take i xs) z ⊎ (z ≡ x) → Contains (take (i + 1) xs) z
contains_more xs i x z lt read h =
    let more : take (i + 1) xs ≡ take i xs ++ x ∷ [] = take_more xs i x lt ∙ ap (λ w. take i xs ++ w ∷ []) (sym read) in
    rw more (elim h [
      | inl c ↦ Contains-append_left (take i xs) (x ∷ []) z c
      | inr e ↦ Contains-append_right (take i xs) (x ∷ []) z (rw e (Contains-here x []))
    ])

contains_fewer : (xs : List ℕ) (i x z : ℕ) → i < length xs → x ≡ get_or xs i x → Contains (take (i + 1) xs) z → Contains (take i xs) z ⊎ (z ≡ x)
contains_fewer xs i x z lt read c =
    let more : take (i + 1) xs ≡ take i xs ++ x ∷ [] = take_more xs i x lt ∙ ap (λ w. take i xs ++ w ∷ []) (sym read) in
    elim (Contains-append_cases (take i xs) (x ∷ []) z (rw more at c)) [
      | inl d ↦ inl d
      | inr d ↦ elim (Contains-cases x [] z d) [ inl e ↦ inr e | inr f ↦ absurd (Contains-none z f) ]
    ]

pub found_more : (xs : List ℕ) (i x key : ℕ) (o : Option ℕ) → i < length xs → x ≡ get_or xs i x → Found (Contains (take i xs)) key o →
    Found (Contains (take (i + 1) xs)) key (nearer_of o (Some x) key)
found_more xs i x key o lt read h =
    found_same (either (Contains (take i xs)) (λ z. z ≡ x)) (Contains (take (i + 1) xs)) key (nearer_of o (Some x) key)
    (λ z p. contains_more xs i x z lt read p) (λ z p. contains_fewer xs i x z lt read p)
    (found_both (Contains (take i xs)) (λ z. z ≡ x) key o (Some x) h (found_itself key x))

-- the next is nearer than the nearest so far, or it is not
pub found_nearer : (xs : List ℕ) (i x y key : ℕ) → i < length xs → x ≡ get_or xs i x → is_nearer x y key ≡ true →
    Found (Contains (take i xs)) key (Some y) → Found (Contains (take (i + 1) xs)) key (Some x)
found_nearer xs i x y key lt read e h =
    subst (Found (Contains (take (i + 1) xs)) key) (cond-true (is_nearer x y key) (Some x) (Some y) e) (found_more xs i x key (Some y) lt read h)

pub found_not_nearer : (xs : List ℕ) (i x y key : ℕ) → i < length xs → x ≡ get_or xs i x → is_nearer x y key ≡ false →
    Found (Contains (take i xs)) key (Some y) → Found (Contains (take (i + 1) xs)) key (Some y)
found_not_nearer xs i x y key lt read e h =
    subst (Found (Contains (take (i + 1) xs)) key) (cond-false (is_nearer x y key) (Some x) (Some y) e) (found_more xs i x key (Some y) lt read h)

-- a list's element behind its first is one of the rest
pub read_rest : (xs rest : List ℕ) (first i x : ℕ) → xs ≡ first ∷ rest → x ≡ get_or rest i x → x ≡ get_or xs (i + 1) x
read_rest xs rest first i x is read = let next : i + 1 ≡ suc i = omega arith in rw (is, next) read

-- the same among those that improve on another
abbrev pub better_in : List ℕ → ℕ → ℕ → ℕ → ℕ → Type 0
better_in xs key least than z = Improves xs key least than z

module _ (key least than : ℕ) where
  better_at : (xs : List ℕ) (i x z : ℕ) → i < length xs → x ≡ get_or xs i x → improves key least than x ≡ true →
      Improves (take i xs) key least than z ⊎ (z ≡ x) → Improves (take (i + 1) xs) key least than z
  better_at xs i x z lt read good (inl h) = record { member = contains_more xs i x z lt read (inl h.member); better = h.better }
  better_at xs i x z lt read good (inr e) = record { member = contains_more xs i x z lt read (inr e); better = rw e good }

  better_before : (xs : List ℕ) (i x z : ℕ) → i < length xs → x ≡ get_or xs i x → Improves (take (i + 1) xs) key least than z →
      Improves (take i xs) key least than z ⊎ (z ≡ x)
  better_before xs i x z lt read h =
      elim (contains_fewer xs i x z lt read h.member) [ inl c ↦ inl (record { member = c; better = h.better }) | inr e ↦ inr e ]

  pub found_better : (xs : List ℕ) (i x : ℕ) (o : Option ℕ) → i < length xs → x ≡ get_or xs i x → improves key least than x ≡ true →
      Found (better_in (take i xs) key least than) key o → Found (better_in (take (i + 1) xs) key least than) key (nearer_of o (Some x) key)
  found_better xs i x o lt read good h =
      found_same (either (better_in (take i xs) key least than) (λ z. z ≡ x)) (better_in (take (i + 1) xs) key least than) key (nearer_of o (Some x) key)
      (λ z p. better_at xs i x z lt read good p) (λ z p. better_before xs i x z lt read p)
      (found_both (better_in (take i xs) key least than) (λ z. z ≡ x) key o (Some x) h (found_itself key x))

  pub found_no_better : (xs : List ℕ) (i x : ℕ) (o : Option ℕ) → i < length xs → x ≡ get_or xs i x → improves key least than x ≡ false →
      Found (better_in (take i xs) key least than) key o → Found (better_in (take (i + 1) xs) key least than) key o
  found_no_better xs i x o lt read bad h =
      found_same (better_in (take i xs) key least than) (better_in (take (i + 1) xs) key least than) key o there back h where
        there : (z : ℕ) → Improves (take i xs) key least than z → Improves (take (i + 1) xs) key least than z
        there z p = record { member = contains_more xs i x z lt read (inl p.member); better = p.better }

        back : (z : ℕ) → Improves (take (i + 1) xs) key least than z → Improves (take i xs) key least than z
        back z p =
            elim (contains_fewer xs i x z lt read p.member) [
              | inl c ↦ record { member = c; better = p.better }
              | inr e ↦ let good : improves key least than x ≡ true = subst (λ w. improves key least than w ≡ true) e p.better in cc
            ]

-- ---- both sides in leaf order

in_order_there : (right left : List ℕ) (z : ℕ) → Contains right z ⊎ Contains left z → Contains (also_of right left) z
in_order_there right left z (inl c) = Contains-append_left right _ z c
in_order_there right left z (inr c) =
    elim (cases_Bool (is_in right z)) [
      | inl e ↦ Contains-append_left right _ z (Contains-is_in right z e)
      | inr e ↦ Contains-append_right right _ z (Contains-filter (λ y. not (is_in right y)) left z c (not_from_false (is_in right z) e))
    ]

in_order_back : (right left : List ℕ) (z : ℕ) → Contains (also_of right left) z → Contains right z ⊎ Contains left z
in_order_back right left z c =
    elim (Contains-append_cases right _ z c) [
      | inl d ↦ inl d
      | inr d ↦ inr (Contains-from_filter (λ y. not (is_in right y)) left z d).0
    ]

pub found_leaf : (right left : List ℕ) (key : ℕ) (a b : Option ℕ) → Found (Contains right) key a → Found (Contains left) key b →
    Found (Contains (also_of right left)) key (nearer_of a b key)
found_leaf right left key a b h k =
    found_same (either (Contains right) (Contains left)) (Contains (also_of right left)) key (nearer_of a b key)
    (in_order_there right left) (in_order_back right left) (found_both (Contains right) (Contains left) key a b h k)

pub found_better_leaf : (right left : List ℕ) (key least than : ℕ) (a b : Option ℕ) → Found (better_in right key least than) key a →
    Found (better_in left key least than) key b → Found (better_in (also_of right left) key least than) key (nearer_of a b key)
found_better_leaf right left key least than a b h k =
    found_same (either (better_in right key least than) (better_in left key least than)) (better_in (also_of right left) key least than) key (nearer_of a b key)
    there back (found_both (better_in right key least than) (better_in left key least than) key a b h k) where
      there : (z : ℕ) → Improves right key least than z ⊎ Improves left key least than z → Improves (also_of right left) key least than z
      there z (inl p) = record { member = in_order_there right left z (inl p.member); better = p.better }
      there z (inr p) = record { member = in_order_there right left z (inr p.member); better = p.better }

      back : (z : ℕ) → Improves (also_of right left) key least than z → Improves right key least than z ⊎ Improves left key least than z
      back z p = elim (in_order_back right left z p.member) [
        | inl c ↦ inl (record { member = c; better = p.better })
        | inr c ↦ inr
            (record { member = c; better = p.better })
      ]
