-- Leaves and sides hold nothing but what was learnt, and learning keeps what was known.
use Rattle.std.proofs.Common.{◌≡◌, ◌≢◌, ◌⊎◌, inl, inr, ◌≤◌, ℕ, zero, suc, arith, true, false, not, ◌||◌, ◌==◌, nat_lt, List, [], ◌∷◌, ◌++◌, take, Contains}
use Rattle.std.proofs.lemmas.Bool.{cond_both, or_cases, or_parts}
use Rattle.std.proofs.lemmas.Bool.Decides.{Decides-eqb}
use Rattle.std.proofs.lemmas.List.Elements.{Contains-append_left, Contains-push}
use Rattle.ring_math.specs.declared.limits.TheConstants.{LEAVES_PER_SIDE}
use Rattle.ring_math.specs.Names.{Id}
use Rattle.ring_math.specs.Ring.{cw_of}
use Rattle.ring_math.proofs.Membership.{Contains-is_in}
use Rattle.ring_math.specs.Sides.{placed, placed_all, nearest_first, right_side, left_side, is_in, leaves, first_or, learn, learn_all}
use Rattle.overlay_rules.proofs.Each.{Each, Each-append, Each-filter, Each-take}

module _ (R : Id → Type 0) where
  each_placed : (far : Id → ℕ) (x : Id) (ys : List Id) → R x → Each R ys → Each R (placed far x ys)
  each_placed far x [] h t = (h, t)
  each_placed far x (y ∷ ys) h t = cond_both (nat_lt (far x) (far y)) _ _ (Each R) (λ _. (h, t)) (λ _. (t.0, each_placed far x ys h t.1))

  each_placed_all : (far : Id → ℕ) (ys xs : List Id) → Each R ys → Each R xs → Each R (placed_all far ys xs)
  each_placed_all far ys [] t h = t
  each_placed_all far ys (x ∷ xs) t h = each_placed_all far (placed far x ys) xs (each_placed far x ys h.0 t) h.1

  each_side : (far : Id → ℕ) (known : List Id) → Each R known → Each R (take LEAVES_PER_SIDE (nearest_first far known))
  each_side far known h = Each-take R LEAVES_PER_SIDE (nearest_first far known) (each_placed_all far [] known tt h)

  pub Each-leaves : (me : Id) (known : List Id) → Each R known → Each R (leaves me known)
  Each-leaves me known h =
      Each-append R (right_side me known) _ (each_side (λ y. cw_of me y) known h)
      (Each-filter R (λ y. not (is_in (right_side me known) y)) (left_side me known) (each_side (λ y. cw_of y me) known h))

  pub Each-learn : (me : Id) (known : List Id) (y : Id) → Each R known → R y → Each R (learn me known y)
  Each-learn me known y h r = cond_both ((y == me) || is_in known y) _ _ (Each R) (λ _. h) (λ _. Each-append R known (y ∷ []) h (r, tt))

  pub Each-learn_all : (me : Id) (known ys : List Id) → Each R known → Each R ys → Each R (learn_all me known ys)
  Each-learn_all me known [] h r = h
  Each-learn_all me known (y ∷ ys) h r = Each-learn_all me (learn me known y) ys (Each-learn me known y h r.0) r.1

-- ---- a list that is not empty

abbrev pub IsCons : List Id → Type 0
IsCons [] = ⊥
IsCons (x ∷ xs) = Unit {0}

cons_placed : (far : Id → ℕ) (x : Id) (ys : List Id) → IsCons (placed far x ys)
cons_placed far x [] = tt
cons_placed far x (y ∷ ys) = cond_both (nat_lt (far x) (far y)) _ _ IsCons (λ _. tt) (λ _. tt)

cons_placed_all : (far : Id → ℕ) (ys xs : List Id) → IsCons ys → IsCons (placed_all far ys xs)
cons_placed_all far ys [] h = h
cons_placed_all far ys (x ∷ xs) h = cons_placed_all far (placed far x ys) xs (cons_placed far x ys)

cons_take : (n : ℕ) (xs : List Id) → 1 ≤ n → IsCons xs → IsCons (take n xs)
cons_take zero xs le h = absurd (omega arith)
cons_take (suc n) [] le h = h
cons_take (suc n) (x ∷ xs) le h = tt

cons_side : (far : Id → ℕ) (known : List Id) → IsCons known → IsCons (take LEAVES_PER_SIDE (nearest_first far known))
cons_side far [] h = absurd h
cons_side far (x ∷ xs) h = cons_take LEAVES_PER_SIDE _ (omega arith) (cons_placed_all far (x ∷ []) xs tt)

pub IsCons-learn : (me : Id) (known : List Id) (y : Id) → IsCons known → IsCons (learn me known y)
IsCons-learn me [] y h = absurd h
IsCons-learn me (x ∷ xs) y h = cond_both ((y == me) || is_in (x ∷ xs) y) _ _ IsCons (λ _. tt) (λ _. tt)

pub IsCons-learn_all : (me : Id) (known ys : List Id) → IsCons known → IsCons (learn_all me known ys)
IsCons-learn_all me known [] h = h
IsCons-learn_all me known (y ∷ ys) h = IsCons-learn_all me (learn me known y) ys (IsCons-learn me known y h)

-- who has leaves knows somebody
pub IsCons-known : (me : Id) (known : List Id) (y : Id) (ys : List Id) → y ∷ ys ≡ leaves me known → IsCons known
IsCons-known me [] y ys e = cc
IsCons-known me (x ∷ xs) y ys e = tt

each_first : (R : Id → Type 0) (otherwise : Id) (xs : List Id) → IsCons xs → Each R xs → R (first_or otherwise xs)
each_first R otherwise [] h t = absurd h
each_first R otherwise (x ∷ xs) h t = t.0

pub first_right-known : (R : Id → Type 0) (me : Id) (known : List Id) → IsCons known → Each R known → R (first_or me (right_side me known))
first_right-known R me known h t = each_first R me _ (cons_side (λ y. cw_of me y) known h) (each_side R (λ y. cw_of me y) known t)

pub first_left-known : (R : Id → Type 0) (me : Id) (known : List Id) → IsCons known → Each R known → R (first_or me (left_side me known))
first_left-known R me known h t = each_first R me _ (cons_side (λ y. cw_of y me) known h) (each_side R (λ y. cw_of y me) known t)

-- ---- what is known stays known

pub Contains-learn : (me : Id) (known : List Id) (y z : Id) → Contains known z → Contains (learn me known y) z
Contains-learn me known y z c = cond_both ((y == me) || is_in known y) _ _ (λ xs. Contains xs z) (λ _. c) (λ _. Contains-append_left known (y ∷ []) z c)

pub Contains-learn_all : (me : Id) (known ys : List Id) (z : Id) → Contains known z → Contains (learn_all me known ys) z
Contains-learn_all me known [] z c = c
Contains-learn_all me known (y ∷ ys) z c = Contains-learn_all me (learn me known y) ys z (Contains-learn me known y z c)

-- whom a node has learnt it knows, unless it is itself
pub learnt_itself : (me : Id) (known : List Id) (y : Id) → (y ≡ me) ⊎ Contains (learn me known y) y
learnt_itself me known y =
    cond_both ((y == me) || is_in known y) known (known ++ y ∷ []) (λ xs. (y ≡ me) ⊎ Contains xs y)
    (λ e. elim (or_cases (y == me) (is_in known y) e) [ inl f ↦ inl ((Decides-eqb y me).0 f) | inr f ↦ inr (Contains-is_in known y f) ])
    (λ _. inr (Contains-push known y))

-- and itself it never learns
pub unknown-learn : (me : Id) (known : List Id) (y : Id) → Each (λ z. z ≢ me) known → Each (λ z. z ≢ me) (learn me known y)
unknown-learn me known y h =
    cond_both ((y == me) || is_in known y) known (known ++ y ∷ []) (Each (λ z. z ≢ me)) (λ _. h)
    (λ e. Each-append (λ z. z ≢ me) known (y ∷ []) h
    ((λ same. let f : y == me ≡ true = (Decides-eqb y me).1 same in let g : y == me ≡ false = (or_parts (y == me) (is_in known y) e).0 in cc), tt))

pub unknown-learn_all : (me : Id) (known ys : List Id) → Each (λ z. z ≢ me) known → Each (λ z. z ≢ me) (learn_all me known ys)
unknown-learn_all me known [] h = h
unknown-learn_all me known (y ∷ ys) h = unknown-learn_all me (learn me known y) ys (unknown-learn me known y h)
