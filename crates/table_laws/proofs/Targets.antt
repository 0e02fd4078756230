-- Whom an insert asks for replicas: as many different leaves as copies are wanted beside the root's own, none of them the root.
use Rattle.std.proofs.Common.{◌≡◌, ◌≢◌, inl, inr, ◌≤◌, ℕ, zero, suc, ◌-◌, Bool, true, false, not, ◌||◌, ◌==◌, nat_lt, List, [], ◌∷◌, ◌++◌, filter, take, length}
use Rattle.std.proofs.Common.{refl, sym, subst, ap, ◌∙◌, arith}
use Rattle.std.proofs.lemmas.Bool.{cond_both, cases_Bool, and_from, or_parts}
use Rattle.std.proofs.lemmas.Bool.Decides.{Decides-eqb, nat_tests}
use Rattle.std.proofs.lemmas.List.{length-take-le}
use Rattle.ring_math.specs.declared.limits.TheConstants.{LEAVES_PER_SIDE}
use Rattle.ring_math.specs.Names.{Id, Key, FileId}
use Rattle.ring_math.specs.Ring.{cw_of, is_nearer}
use Rattle.ring_math.specs.Keys.{key_of}
use Rattle.ring_math.specs.Sides.{placed, placed_all, nearest_first, right_side, left_side, is_in, leaves, learn, learn_all}
use Rattle.ring_math.proofs.Membership.{Contains-is_in}
use Rattle.wire_msg.specs.declared.reply.Why.{Why}
use Rattle.wire_msg.specs.declared.reply.Why.TheVariants as why
use Rattle.overlay_rules.specs.State.{State}
use Rattle.overlay_rules.specs.Outcome.{Outcome, Input}
use Rattle.overlay_rules.specs.Record.{all_differ}
use Rattle.overlay_rules.specs.Joining.{learnt_of}
use Rattle.overlay_rules.specs.Roots.{placed_near, nearest_to, targets_of, has_too_few}
use Rattle.overlay_rules.proofs.Each.{Each, Each-append, Each-contains, Each-filter, Each-take, Each-weaker}
use Rattle.overlay_rules.proofs.Seat.{Seat}
use Rattle.overlay_rules.proofs.Seat as rule
use Rattle.step_facts.proofs.Learnt.{Each-leaves}

-- all differ, by cases on the list
abbrev pub Differ : List Id → Type 0
Differ [] = Unit {0}
Differ (x ∷ xs) = Each (λ y. y ≢ x) xs × Differ xs

turned : (x y : Id) → x ≢ y → y ≢ x
turned x y ne e = ne (sym e)

in_none : (xs : List Id) (x : Id) → Each (λ y. y ≢ x) xs → is_in xs x ≡ false
in_none xs x h = elim (cases_Bool (is_in xs x)) [ inl e ↦ absurd (Each-contains (λ y. y ≢ x) xs x h (Contains-is_in xs x e) refl) | inr e ↦ e ]

none_in : (xs : List Id) (x : Id) → is_in xs x ≡ false → Each (λ y. y ≢ x) xs
none_in [] x e = tt
none_in (y ∷ ys) x e =
    let p = or_parts (y == x) (is_in ys x) e in ((λ f. let yes' : (y == x) ≡ true = (Decides-eqb y x).1 f in let no' = p.0 in absurd (cc)), none_in ys x p.1)

pub differ_all : (xs : List Id) → Differ xs → all_differ xs ≡ true
differ_all [] h = refl
differ_all (x ∷ xs) h = and_from (not (is_in xs x)) (all_differ xs) (ap not (in_none xs x h.0)) (differ_all xs h.1)

-- ---- what keeps lists different

differ_take : (n : ℕ) (xs : List Id) → Differ xs → Differ (take n xs)
differ_take zero xs h = tt
differ_take (suc n) [] h = tt
differ_take (suc n) (x ∷ xs) h = (Each-take (λ y. y ≢ x) n xs h.0, differ_take n xs h.1)

differ_filter : (t : Id → Bool) (xs : List Id) → Differ xs → Differ (filter t xs)
differ_filter t [] h = tt
differ_filter t (x ∷ xs) h = cond_both (t x) (x ∷ filter t xs) (filter t xs) Differ (λ _. (Each-filter (λ y. y ≢ x) t xs h.0, differ_filter t xs h.1))
    (λ _. differ_filter t xs h.1)

differ_append : (xs ys : List Id) → Differ xs → Differ ys → Each (λ y. Each (λ x. x ≢ y) xs) ys → Differ (xs ++ ys)
differ_append [] ys h k d = k
differ_append (x ∷ xs) ys h k d = (
  Each-append (λ y. y ≢ x) xs ys h.0 (Each-weaker (λ y. Each (λ z. z ≢ y) (x ∷ xs)) (λ y. y ≢ x) ys (λ y e. turned x y e.0) d),
  differ_append xs ys h.1 k (Each-weaker (λ y. Each (λ z. z ≢ y) (x ∷ xs)) (λ y. Each (λ z. z ≢ y) xs) ys (λ y e. e.1) d),
)

module _ (R : Id → Type 0) where
  each_placed : (far : Id → ℕ) (x : Id) (ys : List Id) → R x → Each R ys → Each R (placed far x ys)
  each_placed far x [] h t = (h, t)
  each_placed far x (y ∷ ys) h t = cond_both (nat_lt (far x) (far y)) _ _ (Each R) (λ _. (h, t)) (λ _. (t.0, each_placed far x ys h t.1))

  each_near : (key : Key) (x : Id) (ys : List Id) → R x → Each R ys → Each R (placed_near key x ys)
  each_near key x [] h t = (h, t)
  each_near key x (y ∷ ys) h t = cond_both (is_nearer x y key) _ _ (Each R) (λ _. (h, t)) (λ _. (t.0, each_near key x ys h t.1))

  each_nearest : (key : Key) (xs : List Id) → Each R xs → Each R (nearest_to key xs)
  each_nearest key [] h = tt
  each_nearest key (x ∷ xs) h = each_near key x (nearest_to key xs) h.0 (each_nearest key xs h.1)

  pub Each-targets : (s : State) (f : FileId) (copies : ℕ) → Each R s.known → Each R (targets_of s f copies)
  Each-targets s f copies h = Each-take R (copies - 1) (nearest_to (key_of f) (leaves s.me s.known))
      (each_nearest (key_of f) (leaves s.me s.known) (Each-leaves R s.me s.known h))

differ_placed : (far : Id → ℕ) (x : Id) (ys : List Id) → Each (λ y. y ≢ x) ys → Differ ys → Differ (placed far x ys)
differ_placed far x [] h d = (tt, tt)
differ_placed far x (y ∷ ys) h d =
    cond_both (nat_lt (far x) (far y)) (x ∷ (y ∷ ys)) (y ∷ placed far x ys) Differ (λ _. (h, d))
    (λ _. (each_placed (λ z. z ≢ y) far x ys (turned y x h.0) d.0, differ_placed far x ys h.1 d.1))

differ_placed_all : (far : Id → ℕ) (ys xs : List Id) → Differ ys → Differ xs → Each (λ x. Each (λ y. y ≢ x) ys) xs → Differ (placed_all far ys xs)
differ_placed_all far ys [] h d k = h
differ_placed_all far ys (x ∷ xs) h d k =
    differ_placed_all far (placed far x ys) xs (differ_placed far x ys k.0 h) d.1 (apart xs d.0 k.1) where
      apart : (zs : List Id) → Each (λ y. y ≢ x) zs → Each (λ z. Each (λ y. y ≢ z) ys) zs → Each (λ z. Each (λ y. y ≢ z) (placed far x ys)) zs
      apart [] a b = tt
      apart (z ∷ zs) a b = (each_placed (λ y. y ≢ z) far x ys (turned z x a.0) b.0, apart zs a.1 b.1)

none_apart : (xs : List Id) → Each (λ x. Each (λ y. y ≢ x) []) xs
none_apart [] = tt
none_apart (x ∷ xs) = (tt, none_apart xs)

differ_side : (far : Id → ℕ) (known : List Id) → Differ known → Differ (take LEAVES_PER_SIDE (nearest_first far known))
differ_side far known h = differ_take LEAVES_PER_SIDE (nearest_first far known) (differ_placed_all far [] known tt h (none_apart known))

not_named : (named : List Id) (others : List Id) → Each (λ y. Each (λ x. x ≢ y) named) (filter (λ y. not (is_in named y)) others)
not_named named [] = tt
not_named named (y ∷ ys) =
    cond_both (not (is_in named y)) (y ∷ filter (λ z. not (is_in named z)) ys) (filter (λ z. not (is_in named z)) ys) (Each (λ z. Each (λ x. x ≢ z) named))
    (λ e. (none_in named y (off (is_in named y) e), not_named named ys)) (λ _. not_named named ys) where
      off : (b : Bool) → not b ≡ true → b ≡ false
      off true e = cc
      off false e = refl

pub differ_leaves : (me : Id) (known : List Id) → Differ known → Differ (leaves me known)
differ_leaves me known h =
    differ_append (right_side me known) (filter (λ y. not (is_in (right_side me known) y)) (left_side me known)) (differ_side (λ y. cw_of me y) known h)
    (differ_filter (λ y. not (is_in (right_side me known) y)) (left_side me known) (differ_side (λ y. cw_of y me) known h))
    (not_named (right_side me known) (left_side me known))

differ_near : (key : Key) (x : Id) (ys : List Id) → Each (λ y. y ≢ x) ys → Differ ys → Differ (placed_near key x ys)
differ_near key x [] h d = (tt, tt)
differ_near key x (y ∷ ys) h d =
    cond_both (is_nearer x y key) (x ∷ (y ∷ ys)) (y ∷ placed_near key x ys) Differ (λ _. (h, d))
    (λ _. (each_near (λ z. z ≢ y) key x ys (turned y x h.0) d.0, differ_near key x ys h.1 d.1))

differ_nearest : (key : Key) (xs : List Id) → Differ xs → Differ (nearest_to key xs)
differ_nearest key [] h = tt
differ_nearest key (x ∷ xs) h = differ_near key x (nearest_to key xs) (each_nearest (λ y. y ≢ x) key xs h.0) (differ_nearest key xs h.1)

length_near : (key : Key) (x : Id) (ys : List Id) → length (placed_near key x ys) ≡ suc (length ys)
length_near key x [] = refl
length_near key x (y ∷ ys) = cond_both (is_nearer x y key) (x ∷ (y ∷ ys)) (y ∷ placed_near key x ys) (λ zs. length zs ≡ suc (suc (length ys))) (λ _. refl)
    (λ _. ap suc (length_near key x ys))

length_nearest : (key : Key) (xs : List Id) → length (nearest_to key xs) ≡ length xs
length_nearest key [] = refl
length_nearest key (x ∷ xs) = length_near key x (nearest_to key xs) ∙ ap suc (length_nearest key xs)

-- ---- the targets

pub targets_differ : (s : State) (f : FileId) (copies : ℕ) → Differ s.known → Each (λ y. y ≢ s.me) s.known → Differ (s.me ∷ targets_of s f copies)
targets_differ s f copies h u = (
  Each-targets (λ y. y ≢ s.me) s f copies u,
  differ_take (copies - 1) (nearest_to (key_of f) (leaves s.me s.known)) (differ_nearest (key_of f) (leaves s.me s.known) (differ_leaves s.me s.known h)),
)

pub targets_number : (s : State) (f : FileId) (copies : ℕ) → 1 ≤ copies → has_too_few s copies ≡ false → suc (length (targets_of s f copies)) ≡ copies
targets_number s f copies le few =
    let enough : copies - 1 ≤ length (nearest_to (key_of f) (leaves s.me s.known)) =
    subst (λ n. copies - 1 ≤ n) (sym (length_nearest (key_of f) (leaves s.me s.known))) (not_less _ _ few) in
    let long : length (targets_of s f copies) ≡ copies - 1 = length-take-le (copies - 1) (nearest_to (key_of f) (leaves s.me s.known)) enough in
    omega arith
  where
    not_less : (a b : ℕ) → nat_lt a b ≡ false → b ≤ a
    not_less a b e = grind (arith, nat_tests)

-- ---- what is known differs

differ_learn : (me : Id) (known : List Id) (y : Id) → Differ known → Differ (learn me known y)
differ_learn me known y h =
    elim (cases_Bool (is_in known y)) [
      | inl e ↦ cond_both ((y == me) || is_in known y) known (known ++ y ∷ []) Differ (λ _. h)
          (λ f. let some = or_parts (y == me) (is_in known y) f in let none = some.1 in absurd (cc))
      | inr e ↦ cond_both ((y == me) || is_in known y) known (known ++ y ∷ []) Differ (λ _. h)
          (λ _. differ_append known (y ∷ []) h (tt, tt) (none_in known y e, tt))
    ]

differ_learn_all : (me : Id) (known ys : List Id) → Differ known → Differ (learn_all me known ys)
differ_learn_all me known [] h = h
differ_learn_all me known (y ∷ ys) h = differ_learn_all me (learn me known y) ys (differ_learn me known y h)

differ_learnt : (s : State) (w : Why) → Differ s.known → Differ (learnt_of s w)
differ_learnt s (why.Moved l r) h = differ_learn s.me (learn s.me s.known l) r (differ_learn s.me s.known l h)
differ_learnt s (why.Busy j) h = h
differ_learnt s why.NotReady h = h

pub seat_differs : (s : State) (i : Input) (o : Outcome) → Seat s i o → Differ s.known → Differ o.state.known
seat_differs _ _ _ (rule.serves s i o e f g q) h = subst Differ (sym e.known) h
seat_differs _ _ _ (rule.probes s from a m heard known y ys e f g) h = subst Differ (sym f) (differ_learn_all s.me s.known heard h)
seat_differs _ _ _ (rule.probes_on s from a m heard known old probed new e f g k) h = subst Differ (sym f) (differ_learn_all s.me s.known heard h)
seat_differs _ _ _ (rule.leases s from a m heard known old e f) h = subst Differ (sym f) (differ_learn_all s.me s.known heard h)
seat_differs _ _ _ (rule.denied s from a m l r fl fr w e) h = differ_learnt s w h
seat_differs _ _ _ (rule.grant_readies s t from a m l r fl fr left right manifest tombs e f g k i) h = subst Differ (sym (ap (λ (u : State). u.known) f)) h
seat_differs _ _ _ (rule.confirms s from a b x y e f) h = differ_learn s.me s.known from h
seat_differs _ _ _ (rule.announced s from) h = differ_learn s.me s.known from h
seat_differs s _ _ m h = h
