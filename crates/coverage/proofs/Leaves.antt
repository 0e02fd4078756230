-- Leaves and entries of a list: each is in the list, and the first leaf of a side is the one to which the way is least.
use Rattle.std.proofs.Common.{◌≡◌, ℕ, ◌-◌, ◌<◌, true, not, ◌⊎◌, ◌==◌, List, [], ◌∷◌, take, Some, refl, sym, ◌∙◌, subst, ap, ltb, arith, inl, inr}
use Rattle.std.specs.Prelude.{slice_get}
use Rattle.std.specs.List.{Contains, position_or_len}
use Rattle.std.proofs.lemmas.Bool.{cases_Bool, cond-true, cond-false, cond_both, eqb-true}
use Rattle.std.proofs.lemmas.List.{get_or-take, get_or_default, length-take}
use Rattle.std.proofs.lemmas.List.Elements.{Contains-append_left, Contains-append_right, Contains-append_cases}
use Rattle.std.proofs.lemmas.List.Folds.{Any-from_list_any, find_at}
use Rattle.std.proofs.lemmas.Option.{slice_get_within, get_or_from_slice_get}
use Rattle.std.proofs.lemmas.Bool.Decides.{nat_tests}
use Rattle.ring_math.specs.declared.limits.TheConstants.{LEAVES_PER_SIDE}
use Rattle.ring_math.specs.Ring.{cw_of}
use Rattle.ring_math.specs.Members.{with}
use Rattle.ring_math.specs.Sides.{placed, placed_all, nearest_first, first_or, right_side, left_side, leaves, also_of, is_in, belongs, entry_of}
use Rattle.ring_math.proofs.Membership.{Contains-here, Contains-there, Contains-cases, Contains-none, Contains-filter, Contains-from_filter}
use Rattle.ring_math.proofs.Neighbours.{IsLeast, least_kept, least_new}

-- a list whose first is the least of a set
pub record StartsWithLeast (far : ℕ → ℕ) (P : ℕ → Type 0) (xs : List ℕ) : Type 0 where
  pub head : ℕ
  pub rest : List ℕ
  pub is : xs ≡ head ∷ rest
  pub least : IsLeast far P head

starts_same : (far : ℕ → ℕ) (P Q : ℕ → Type 0) (xs : List ℕ) → ((z : ℕ) → P z → Q z) → ((z : ℕ) → Q z → P z) → StartsWithLeast far P xs →
    StartsWithLeast far Q xs
starts_same far P Q xs there back h = record {
  head = h.head;
  rest = h.rest;
  is = h.is;
  least = record { member = there h.head h.least.member; least = λ z qz. h.least.least z (back z qz) };
}

placed_least : (far : ℕ → ℕ) (P : ℕ → Type 0) (x y : ℕ) (ys : List ℕ) → IsLeast far P y → StartsWithLeast far (with P x) (placed far x (y ∷ ys))
placed_least far P x y ys h =
    elim (cases_Bool (ltb (far x) (far y))) [
      | inl lt ↦ record {
        head = x;
        rest = y ∷ ys;
        is = cond-true (ltb (far x) (far y)) (x ∷ (y ∷ ys)) _ lt;
        least = least_new far P x y h (grind (arith, nat_tests, lt));
      }
      | inr ge ↦ record {
        head = y;
        rest = placed far x ys;
        is = cond-false (ltb (far x) (far y)) _ (y ∷ placed far x ys) ge;
        least = least_kept far P x y h (grind (arith, nat_tests, ge));
      }
    ]

placed_on : (far : ℕ → ℕ) (P : ℕ → Type 0) (x : ℕ) (ys : List ℕ) → StartsWithLeast far P ys → StartsWithLeast far (with P x) (placed far x ys)
placed_on far P x ys h = subst (λ zs. StartsWithLeast far (with P x) (placed far x zs)) (sym h.is) (placed_least far P x h.head h.rest h.least)

-- those placed one after another, and those that stood
abbrev or_in : (ℕ → Type 0) → List ℕ → ℕ → Type 0
or_in P xs z = P z ⊎ Contains xs z

placed_all_least : (far : ℕ → ℕ) (P : ℕ → Type 0) (ys xs : List ℕ) → StartsWithLeast far P ys →
    StartsWithLeast far (or_in P xs) (placed_all far ys xs)
placed_all_least far P ys [] h = starts_same far P (or_in P []) ys (λ z p. inl p) none h where
  none : (z : ℕ) → P z ⊎ Contains [] z → P z
  none z (inl p) = p
  none z (inr c) = absurd (Contains-none z c)
placed_all_least far P ys (x ∷ xs) h =
    starts_same far (or_in (with P x) xs) (or_in P (x ∷ xs)) (placed_all far (placed far x ys) xs) there back
    (placed_all_least far (with P x) (placed far x ys) xs (placed_on far P x ys h)) where
      there : (z : ℕ) → (P z ⊎ (z ≡ x)) ⊎ Contains xs z → P z ⊎ Contains (x ∷ xs) z
      there z (inl (inl p)) = inl p
      there z (inl (inr e)) = inr (rw e (Contains-here x xs))
      there z (inr c) = inr (Contains-there x xs z c)

      back : (z : ℕ) → P z ⊎ Contains (x ∷ xs) z → (P z ⊎ (z ≡ x)) ⊎ Contains xs z
      back z (inl p) = inl (inl p)
      back z (inr c) = elim (Contains-cases x xs z c) [ inl e ↦ inl (inr e) | inr d ↦ inr d ]

pub nearest_first_least : (far : ℕ → ℕ) (x : ℕ) (xs : List ℕ) → StartsWithLeast far (Contains (x ∷ xs)) (nearest_first far (x ∷ xs))
nearest_first_least far x xs =
    starts_same far (or_in (λ z. z ≡ x) xs) (Contains (x ∷ xs)) (nearest_first far (x ∷ xs)) there back
    (placed_all_least far (λ z. z ≡ x) (x ∷ []) xs (record {
      head = x;
      rest = [];
      is = refl;
      least = record { member = refl; least = λ z e. rw e (omega arith) };
    })) where
      there : (z : ℕ) → (z ≡ x) ⊎ Contains xs z → Contains (x ∷ xs) z
      there z (inl e) = rw e (Contains-here x xs)
      there z (inr c) = Contains-there x xs z c

      back : (z : ℕ) → Contains (x ∷ xs) z → (z ≡ x) ⊎ Contains xs z
      back z c = Contains-cases x xs z c

-- the first leaf of a side, of a list that holds anybody
first_is_least : (far : ℕ → ℕ) (otherwise y : ℕ) (known : List ℕ) → Contains known y →
    IsLeast far (Contains known) (first_or otherwise (take LEAVES_PER_SIDE (nearest_first far known)))
first_is_least far otherwise y [] c = absurd (Contains-none y c)
first_is_least far otherwise y (x ∷ xs) c =
    let h = nearest_first_least far x xs in
    let first : first_or otherwise (take LEAVES_PER_SIDE (nearest_first far (x ∷ xs))) ≡ h.head =
    ap (λ zs. first_or otherwise (take LEAVES_PER_SIDE zs)) h.is in
    subst (IsLeast far (Contains (x ∷ xs))) (sym first) h.least

pub first_right : (me y : ℕ) (known : List ℕ) → Contains known y → IsLeast (λ z. cw_of me z) (Contains known) (first_or me (right_side me known))
first_right me y known c = first_is_least (λ z. cw_of me z) me y known c

pub first_left : (me y : ℕ) (known : List ℕ) → Contains known y → IsLeast (λ z. cw_of z me) (Contains known) (first_or me (left_side me known))
first_left me y known c = first_is_least (λ z. cw_of z me) me y known c

-- ---- who is a leaf or an entry is known

Contains-take : (n : ℕ) (xs : List ℕ) (z : ℕ) → Contains (take n xs) z → Contains xs z
Contains-take n xs z (k, lt, e) =
    let short = length-take n xs in
    let below : k < n = omega arith in (k, omega arith, sym (get_or-take n xs k z below) ∙ e)

placed_step : (far : ℕ → ℕ) (x y z : ℕ) (ys : List ℕ) → (Contains (placed far x ys) z → Contains (x ∷ ys) z) →
    Contains (placed far x (y ∷ ys)) z → Contains (x ∷ (y ∷ ys)) z
placed_step far x y z ys rest =
    cond_both (ltb (far x) (far y)) (x ∷ (y ∷ ys)) (y ∷ placed far x ys) (λ zs. Contains zs z → Contains (x ∷ (y ∷ ys)) z)
    (λ _ c. c)
    (λ _ c. elim (Contains-cases y (placed far x ys) z c) [
      | inl e ↦ Contains-there x (y ∷ ys) z (rw e (Contains-here y ys))
      | inr d ↦ elim (Contains-cases x ys z (rest d)) [
        | inl e ↦ rw e (Contains-here x (y ∷ ys))
        | inr f ↦ Contains-there x (y ∷ ys) z (Contains-there y ys z f)
      ]
    ])

Contains-placed : (far : ℕ → ℕ) (x z : ℕ) (ys : List ℕ) → Contains (placed far x ys) z → Contains (x ∷ ys) z
Contains-placed far x z [] c = c
Contains-placed far x z (y ∷ ys) c = placed_step far x y z ys (Contains-placed far x z ys) c

Contains-placed_all : (far : ℕ → ℕ) (ys xs : List ℕ) (z : ℕ) → Contains (placed_all far ys xs) z → Contains ys z ⊎ Contains xs z
Contains-placed_all far ys [] z c = inl c
Contains-placed_all far ys (x ∷ xs) z c =
    elim (Contains-placed_all far (placed far x ys) xs z c) [
      | inl d ↦ elim (Contains-cases x ys z (Contains-placed far x z ys d)) [ inl e ↦ inr (rw e (Contains-here x xs)) | inr f ↦ inl f ]
      | inr d ↦ inr (Contains-there x xs z d)
    ]

Contains-side : (far : ℕ → ℕ) (known : List ℕ) (z : ℕ) → Contains (take LEAVES_PER_SIDE (nearest_first far known)) z → Contains known z
Contains-side far known z c =
    elim (Contains-placed_all far [] known z (Contains-take LEAVES_PER_SIDE (nearest_first far known) z c)) [ inl d ↦ absurd (Contains-none z d) | inr d ↦ d ]

pub leaf_is_known : (me : ℕ) (known : List ℕ) (z : ℕ) → Contains (leaves me known) z → Contains known z
leaf_is_known me known z c =
    elim (Contains-append_cases (right_side me known) _ z c) [
      | inl d ↦ Contains-side (λ y. cw_of me y) known z d
      | inr d ↦ Contains-side (λ y. cw_of y me) known z (Contains-from_filter (λ y. not (is_in (right_side me known) y)) (left_side me known) z d).0
    ]

pub entry_is_known : (me row col : ℕ) (known : List ℕ) (y : ℕ) → entry_of me known row col ≡ Some y → Contains known y
entry_is_known me row col known y e =
    let place : ℕ = position_or_len (belongs me row col) known in
    let at : slice_get known place ≡ Some y = sym (find_at (belongs me row col) known) ∙ e in
    (place, slice_get_within known place y at, get_or_from_slice_get known place y y at)

-- ---- the first leaf of each side is a leaf

first_is_in : (otherwise : ℕ) (xs : List ℕ) (x : ℕ) → Contains xs x → Contains xs (first_or otherwise xs)
first_is_in otherwise [] x c = absurd (Contains-none x c)
first_is_in otherwise (y ∷ ys) x c = Contains-here y ys

-- a side of a list that holds anybody holds somebody
side_holds : (far : ℕ → ℕ) (known : List ℕ) (y : ℕ) → Contains known y → (z : ℕ) × Contains (take LEAVES_PER_SIDE (nearest_first far known)) z
side_holds far [] y c = absurd (Contains-none y c)
side_holds far (x ∷ xs) y c =
    let h = nearest_first_least far x xs in
    (h.head, subst (λ zs. Contains (take LEAVES_PER_SIDE zs) h.head) (sym h.is) (Contains-here h.head (take (LEAVES_PER_SIDE - 1) h.rest)))

is_in-Contains : (xs : List ℕ) (y : ℕ) → is_in xs y ≡ true → Contains xs y
is_in-Contains xs y h =
    let (k, x, lt, at, same) = Any-from_list_any (λ z. z == y) xs h in
    let e : x ≡ y = eqb-true x y same in (k, lt, get_or_default xs k y x lt ∙ at ∙ e)

Contains-also : (named others : List ℕ) (z : ℕ) → Contains others z → Contains (also_of named others) z
Contains-also named others z c =
    elim (cases_Bool (is_in named z)) [
      | inl yes' ↦ Contains-append_left named _ z (is_in-Contains named z yes')
      | inr no' ↦ Contains-append_right named _ z (Contains-filter (λ y. not (is_in named y)) others z c (ap not no'))
    ]

pub first_right_is_leaf : (me y : ℕ) (known : List ℕ) → Contains known y → Contains (leaves me known) (first_or me (right_side me known))
first_right_is_leaf me y known c =
    let some = side_holds (λ z. cw_of me z) known y c in
    Contains-append_left (right_side me known) _ _ (first_is_in me (right_side me known) some.0 some.1)

pub first_left_is_leaf : (me y : ℕ) (known : List ℕ) → Contains known y → Contains (leaves me known) (first_or me (left_side me known))
first_left_is_leaf me y known c =
    let some = side_holds (λ z. cw_of z me) known y c in
    Contains-also (right_side me known) (left_side me known) _ (first_is_in me (left_side me known) some.0 some.1)
