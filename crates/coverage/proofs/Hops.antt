-- The way of a key: who neither covers it nor has it in a gap, and whose links are itself or known, names a node that is known and nearer to the key.
use Rattle.std.proofs.Common.{◌≡◌, ℕ, Bool, true, false, ◌^◌, ◌<◌, ◌⊎◌, List, [], ◌∷◌, ◌++◌, Option, Some, None, refl, sym, ◌∙◌, ap, subst, inl, inr}
use Rattle.std.specs.Prelude.{filter, nat_le}
use Rattle.std.specs.List.{Contains}
use Rattle.std.proofs.lemmas.Bool.{cases_Bool, cases_eq, cond_both, cond-true, cond-false, and_parts}
use Rattle.std.proofs.lemmas.List.Elements.{Contains-append_cases}
use Rattle.ring_math.specs.Ring.{is_nearer, digit_of, shared_of}
use Rattle.ring_math.specs.Sides.{leaves, entry_of, entries_of, is_entry}
use Rattle.ring_math.proofs.Nearness.{is_nearer-same, is_nearer-weaker}
use Rattle.ring_math.proofs.Membership.{Contains-none, Contains-from_filter}
use Rattle.coverage.specs.declared.Reach.{Reach}
use Rattle.coverage.specs.declared.Hop.{Hop}
use Rattle.coverage.specs.declared.Hop.TheVariants.{Here, Gap, To}
use Rattle.coverage.specs.Coverage.{covers_of, gap_of}
use Rattle.coverage.specs.Closest.{closest_in}
use Rattle.coverage.specs.Known.{KnowsLinks}
use Rattle.coverage.specs.NextHop.{is_better, in_leaf_range, to_nearest, to_leaf, to_better, to_any, to_entry, by_prefix, onward, unless_gap, next_hop_of}
use Rattle.coverage.proofs.Ends.{link_on, cases_Option}
use Rattle.coverage.proofs.Leaves.{leaf_is_known, entry_is_known, first_left_is_leaf, first_right_is_leaf}
use Rattle.coverage.proofs.Nearest.{closest_in-place, closest_in-closest}
use Rattle.coverage.proofs.Progress.{link_is_nearer, leaf_is_nearer}

-- a hop to a node that is known and nearer
pub record GoesNearer (me : ℕ) (known : List ℕ) (key : ℕ) (hop : Hop) : Type 0 where
  pub node : ℕ
  pub is : hop ≡ To node
  pub is_known : Contains known node
  pub nearer : is_nearer node me key ≡ true

-- a leaf is nearer than me
pub record HasNearerLeaf (me : ℕ) (known : List ℕ) (key : ℕ) : Type 0 where
  pub leaf : ℕ
  pub is_leaf : Contains (leaves me known) leaf
  pub nearer : is_nearer leaf me key ≡ true

closest_in-found : (xs : List ℕ) (key z : ℕ) → Contains xs z → (y : ℕ) × (closest_in key xs ≡ Some y)
closest_in-found [] key z c = absurd (Contains-none z c)
closest_in-found (x ∷ xs) key z c = let found = closest_in-place x xs key in (_, found.1)

-- than whom z is no nearer is nearer than all than whom z is
no_farther : (y z me key : ℕ) → is_nearer z me key ≡ true → is_nearer z y key ≡ false → is_nearer y me key ≡ true
no_farther y z me key h n =
    elim (cases_Bool (is_nearer y me key)) [
      | inl e ↦ e
      | inr e ↦ let back : is_nearer z y key ≡ true = is_nearer-weaker z me y key h e in cc
    ]

-- ---- each case names a nearer node

to_leaf_nearer : (me : ℕ) (known : List ℕ) (key : ℕ) → HasNearerLeaf me known key → GoesNearer me known key (to_leaf me known key)
to_leaf_nearer me known key h =
    let found = closest_in-found (leaves me known) key h.leaf h.is_leaf in
    let closest = closest_in-closest (leaves me known) key found.0 found.1 in
    let nearer : is_nearer found.0 me key ≡ true =
    elim (cases_eq h.leaf found.0) [
      | inl e ↦ subst (λ w. is_nearer w me key ≡ true) e h.nearer
      | inr ne ↦ no_farther found.0 h.leaf me key h.nearer (closest.nearest h.leaf h.is_leaf ne)
    ] in
    record { node = found.0; is = ap to_nearest found.1; is_known = leaf_is_known me known found.0 closest.member; nearer = nearer }

to_any_nearer : (me : ℕ) (known : List ℕ) (key : ℕ) → HasNearerLeaf me known key → GoesNearer me known key (to_any me known key)
to_any_nearer me known key h =
    let all : List ℕ = leaves me known ++ entries_of me known in
    elim (cases_Option (closest_in key (filter (is_better me key) all))) [
      | inl e ↦ subst (GoesNearer me known key) (ap (to_better me known key) (sym e)) (to_leaf_nearer me known key h)
      | inr (y, e) ↦
          let better = Contains-from_filter (is_better me key) all y (closest_in-closest (filter (is_better me key) all) key y e).member in
          let in_known : Contains known y = elim (Contains-append_cases (leaves me known) (entries_of me known) y better.0) [
            | inl d ↦ leaf_is_known me known y d
            | inr d ↦ (Contains-from_filter (is_entry me known) known y d).0
          ] in
          record {
            node = y;
            is = ap (to_better me known key) e;
            is_known = in_known;
            nearer = (and_parts (nat_le (shared_of me key) (shared_of y key)) (is_nearer y me key) better.1).1;
          }
    ]

to_entry_nearer : (me : ℕ) (known : List ℕ) (key : ℕ) (o : Option ℕ) → ((y : ℕ) → o ≡ Some y → Contains known y) → HasNearerLeaf me known key →
    GoesNearer me known key (to_entry me known key o)
to_entry_nearer me known key None is_known h = to_any_nearer me known key h
to_entry_nearer me known key (Some y) is_known h =
    cond_both (is_nearer y me key) (To y) (to_any me known key) (GoesNearer me known key)
    (λ e. record { node = y; is = refl; is_known = is_known y refl; nearer = e })
    (λ _. to_any_nearer me known key h)

pub onward_nearer : (me : ℕ) (known : List ℕ) (key : ℕ) → HasNearerLeaf me known key → GoesNearer me known key (onward me known key)
onward_nearer me known key h =
    let row : ℕ = shared_of me key in
    cond_both (in_leaf_range me known key) (to_leaf me known key) (by_prefix me known key) (GoesNearer me known key)
    (λ _. to_leaf_nearer me known key h)
    (λ _. to_entry_nearer me known key (entry_of me known row (digit_of key row)) (λ y e. entry_is_known me row (digit_of key row) known y e) h)

-- ---- a node whose links are itself or known

link_known : (right : Bool) (r : Reach) (known : List ℕ) → KnowsLinks r known → (link_on right r ≡ r.me) ⊎ Contains known (link_on right r)
link_known true r known k = k.right
link_known false r known k = k.left

link_bound : (right : Bool) (r : Reach) (known : List ℕ) → KnowsLinks r known → link_on right r < 2 ^ 128
link_bound right r known k = elim (link_known right r known k) [ inl e ↦ rw e k.me | inr c ↦ k.in_ring (link_on right r) c ]

-- a link that is nearer is known, and so a leaf is nearer
leaf_from_link : (right : Bool) (r : Reach) (known : List ℕ) (key : ℕ) → KnowsLinks r known → key < 2 ^ 128 →
    is_nearer (link_on right r) r.me key ≡ true →
    HasNearerLeaf r.me known key
leaf_from_link right r known key k hk h =
    elim (link_known right r known k) [
      | inl e ↦
          let none : is_nearer (link_on right r) r.me key ≡ false = subst (λ w. is_nearer w r.me key ≡ false) (sym e) (is_nearer-same r.me key) in cc
      | inr c ↦ elim (leaf_is_nearer r.me known (link_on right r) key k.in_ring k.me hk k.others c h) [
        | inl n ↦ record { leaf = _; is_leaf = first_left_is_leaf r.me (link_on right r) known c; nearer = n }
        | inr n ↦ record { leaf = _; is_leaf = first_right_is_leaf r.me (link_on right r) known c; nearer = n }
      ]
    ]

pub has_nearer_leaf : (r : Reach) (known : List ℕ) (key : ℕ) → KnowsLinks r known → key < 2 ^ 128 → covers_of r key ≡ false → gap_of r key ≡ None →
    HasNearerLeaf r.me known key
has_nearer_leaf r known key k hk out none =
    elim (link_is_nearer r key k.me (link_bound false r known k) (link_bound true r known k) hk out none) [
      | inl n ↦ leaf_from_link false r known key k hk n
      | inr n ↦ leaf_from_link true r known key k hk n
    ]

stays_here : (r : Reach) (known : List ℕ) (key : ℕ) → covers_of r key ≡ true → next_hop_of r known key ≡ Here
stays_here r known key e = cond-true (covers_of r key) Here _ e

goes_on : (r : Reach) (known : List ℕ) (key : ℕ) (o : Option ℕ) → covers_of r key ≡ false → gap_of r key ≡ o →
    next_hop_of r known key ≡ unless_gap r known key o
goes_on r known key o e g = cond-false (covers_of r key) Here _ e ∙ ap (unless_gap r known key) g

pub next_hop-names : (r : Reach) (known : List ℕ) (key : ℕ) → KnowsLinks r known → key < 2 ^ 128 → covers_of r key ≡ false → gap_of r key ≡ None →
    (y : ℕ) × (next_hop_of r known key ≡ To y) × Contains known y × (is_nearer y r.me key ≡ true)
next_hop-names r known key k hk out none =
    let hop = onward_nearer r.me known key (has_nearer_leaf r known key k hk out none) in
    (hop.node, goes_on r known key None out none ∙ hop.is, hop.is_known, hop.nearer)

-- where the next hop is a node, it is known and nearer
pub next_hop-nearer : (r : Reach) (known : List ℕ) (key y : ℕ) → KnowsLinks r known → key < 2 ^ 128 → next_hop_of r known key ≡ To y →
    Contains known y × (is_nearer y r.me key ≡ true)
next_hop-nearer r known key y k hk e =
    elim (cases_Bool (covers_of r key)) [
      | inl c ↦ let here = stays_here r known key c in cc
      | inr c ↦ elim (cases_Option (gap_of r key)) [
        | inr (j, g) ↦ let gap : next_hop_of r known key ≡ Gap j = goes_on r known key (Some j) c g in cc
        | inl g ↦
            let (z, is, known', nearer) = next_hop-names r known key k hk c g in
            let same : z ≡ y = cc in
            (subst (Contains known) same known', subst (λ w. is_nearer w r.me key ≡ true) same nearer)
      ]
    ]
