-- Where a key goes on from a node: to somebody it knows, who is nearer to the key.
use Rattle.std.proofs.Common.{◌≡◌, ℕ, ◌-◌, Bool, true, false, not, nat_lt, nat_le, ◌^◌, ◌<◌, ◌⊎◌, List, [], ◌∷◌, ◌++◌, filter, take, find, Option}
use Rattle.std.proofs.Common.{Some, None, All, Contains, refl, sym, subst, ap, ◌∙◌, inl, inr}
use Rattle.std.proofs.lemmas.Bool.{cases_Bool, cond_both, cond-true, cond-false, cases_eq, and_parts, not_from_false, true_from_ne_false}
use Rattle.std.proofs.lemmas.List.Elements.{All-nil, All-cons, All-head, All-tail, All-append, All-take, All-filter, All-contains}
use Rattle.std.proofs.lemmas.List.Elements.{All-contains_itself, Contains-append_left, Contains-append_right, Contains-append_cases}
use Rattle.ring_math.specs.declared.limits.TheConstants.{LEAVES_PER_SIDE}
use Rattle.ring_math.specs.Ring.{cw_of, is_nearer, digit_of, shared_of}
use Rattle.ring_math.specs.Members.{InRing, IsClosest}
use Rattle.ring_math.specs.Sides.{placed, placed_all, nearest_first, right_side, left_side, is_in, leaves, first_or, belongs, entry_of, entries_of, is_entry}
use Rattle.ring_math.proofs.Membership.{Contains-here, Contains-there, Contains-none, Contains-filter, Contains-from_filter, Contains-is_in}
use Rattle.ring_math.proofs.Nearness.{is_nearer-same, is_nearer-weaker}
use Rattle.coverage.specs.declared.Reach.{Reach}
use Rattle.coverage.specs.declared.Hop.{Hop}
use Rattle.coverage.specs.declared.Hop.TheVariants.{Here, Gap, To}
use Rattle.coverage.specs.Coverage.{covers_of, gap_of}
use Rattle.coverage.specs.Closest.{closest_in, closest_from}
use Rattle.coverage.specs.NextHop.{in_leaf_range, to_nearest, to_leaf, is_better, to_better, to_any, to_entry, by_prefix, onward, unless_gap, next_hop_of}
use Rattle.coverage.proofs.Leaves.{nearest_first_least}
use Rattle.coverage.proofs.Nearest.{closest_in-closest}
use Rattle.coverage.proofs.Progress.{link_is_nearer, leaf_is_nearer}

-- ---- leaves and entries are known

module _ (P : ℕ → Type 0) where
  all_placed : (far : ℕ → ℕ) (x : ℕ) (ys : List ℕ) → P x → All P ys → All P (placed far x ys)
  all_placed far x [] p h = All-cons P x [] p h
  all_placed far x (y ∷ ys) p h =
      cond_both (nat_lt (far x) (far y)) (x ∷ (y ∷ ys)) (y ∷ placed far x ys) (All P) (λ _. All-cons P x (y ∷ ys) p h)
      (λ _. All-cons P y (placed far x ys) (All-head P y ys h) (all_placed far x ys p (All-tail P y ys h)))

  all_placed_all : (far : ℕ → ℕ) (ys xs : List ℕ) → All P ys → All P xs → All P (placed_all far ys xs)
  all_placed_all far ys [] t h = t
  all_placed_all far ys (x ∷ xs) t h = all_placed_all far (placed far x ys) xs (all_placed far x ys (All-head P x xs h) t) (All-tail P x xs h)

  all_side : (far : ℕ → ℕ) (known : List ℕ) → All P known → All P (take LEAVES_PER_SIDE (nearest_first far known))
  all_side far known h = All-take P LEAVES_PER_SIDE (nearest_first far known) (all_placed_all far [] known (All-nil P) h)

  pub All-leaves : (me : ℕ) (known : List ℕ) → All P known → All P (leaves me known)
  All-leaves me known h =
      All-append P (right_side me known) _ (all_side (λ y. cw_of me y) known h)
      (All-filter (λ y. not (is_in (right_side me known) y)) P (left_side me known) (all_side (λ y. cw_of y me) known h))

pub leaf-known : (me : ℕ) (known : List ℕ) (y : ℕ) → Contains (leaves me known) y → Contains known y
leaf-known me known y c = All-contains (Contains known) (leaves me known) y (All-leaves (Contains known) me known (All-contains_itself known)) c

found-known : (test : ℕ → Bool) (xs : List ℕ) (y : ℕ) → find test xs ≡ Some y → Contains xs y
found-known test [] y e = cc
found-known test (x ∷ xs) y e =
    elim (cases_Bool (test x)) [
      | inl t ↦ let some : find test (x ∷ xs) ≡ Some x = cond-true (test x) (Some x) (find test xs) t in let same : x ≡ y = cc in
          subst (Contains (x ∷ xs)) same (Contains-here x xs)
      | inr f ↦ let rest : find test xs ≡ Some y = sym (cond-false (test x) (Some x) (find test xs) f) ∙ e in Contains-there x xs y (found-known test xs y rest)
    ]

-- ---- the first of each side is a leaf

first-leaf : (far : ℕ → ℕ) (otherwise : ℕ) (known : List ℕ) (y : ℕ) → Contains known y →
    Contains (take LEAVES_PER_SIDE (nearest_first far known)) (first_or otherwise (take LEAVES_PER_SIDE (nearest_first far known)))
first-leaf far otherwise [] y c = absurd (Contains-none y c)
first-leaf far otherwise (x ∷ xs) y c =
    let h = nearest_first_least far x xs in
    subst (λ zs. Contains (take LEAVES_PER_SIDE zs) (first_or otherwise (take LEAVES_PER_SIDE zs))) (sym h.is)
    (Contains-here h.head (take (LEAVES_PER_SIDE - 1) h.rest))

right-leaf : (me : ℕ) (known : List ℕ) (z : ℕ) → Contains (right_side me known) z → Contains (leaves me known) z
right-leaf me known z c = Contains-append_left (right_side me known) _ z c

left-leaf : (me : ℕ) (known : List ℕ) (z : ℕ) → Contains (left_side me known) z → Contains (leaves me known) z
left-leaf me known z c =
    elim (cases_Bool (is_in (right_side me known) z)) [
      | inl e ↦ right-leaf me known z (Contains-is_in (right_side me known) z e)
      | inr e ↦ Contains-append_right (right_side me known) _ z
          (Contains-filter (λ y. not (is_in (right_side me known) y)) (left_side me known) z c (not_from_false (is_in (right_side me known) z) e))
    ]

-- a leaf that is nearer to the key
record NearerLeaf (me : ℕ) (known : List ℕ) (key : ℕ) : Type 0 where
  leaf : ℕ
  is_leaf : Contains (leaves me known) leaf
  nearer : is_nearer leaf me key ≡ true

-- what the next hop rests on: identifiers, a node that does not know itself, and links that it is or knows
pub record CanGoOn (r : Reach) (known : List ℕ) (key : ℕ) : Type 0 where
  pub me : r.me < 2 ^ 128
  pub left : r.left < 2 ^ 128
  pub right : r.right < 2 ^ 128
  pub bound : key < 2 ^ 128
  pub in_ring : InRing (Contains known)
  pub unknown : Contains known r.me → ⊥
  pub left_known : (r.left ≡ r.me) ⊎ Contains known r.left
  pub right_known : (r.right ≡ r.me) ⊎ Contains known r.right

from_link : (r : Reach) (known : List ℕ) (key y : ℕ) → CanGoOn r known key → is_nearer y r.me key ≡ true → (y ≡ r.me) ⊎ Contains known y →
    NearerLeaf r.me known key
from_link r known key y g n (inl e) = let not_nearer = is_nearer-same r.me key in let nearer : is_nearer r.me r.me key ≡ true =
    subst (λ z. is_nearer z r.me key ≡ true) e n in cc
from_link r known key y g n (inr c) =
    elim (leaf_is_nearer r.me known y key g.in_ring g.me g.bound g.unknown c n) [
      | inl h ↦ record {
        leaf = first_or r.me (left_side r.me known);
        is_leaf = left-leaf r.me known _ (first-leaf (λ z. cw_of z r.me) r.me known y c);
        nearer = h;
      }
      | inr h ↦ record {
        leaf = first_or r.me (right_side r.me known);
        is_leaf = right-leaf r.me known _ (first-leaf (λ z. cw_of r.me z) r.me known y c);
        nearer = h;
      }
    ]

nearer_leaf : (r : Reach) (known : List ℕ) (key : ℕ) → CanGoOn r known key → covers_of r key ≡ false → gap_of r key ≡ None → NearerLeaf r.me known key
nearer_leaf r known key g out none =
    elim (link_is_nearer r key g.me g.left g.right g.bound out none) [
      | inl n ↦ from_link r known key r.left g n g.left_known
      | inr n ↦ from_link r known key r.right g n g.right_known
    ]

-- ---- each case names somebody known who is nearer

pub record GoesOn (me : ℕ) (known : List ℕ) (key : ℕ) (y : ℕ) : Type 0 where
  pub known_to_me : Contains known y
  pub nearer : is_nearer y me key ≡ true

same_hop : (x y : ℕ) → To x ≡ To y → x ≡ y
same_hop x y e = cc

-- who is nearest of a set with a nearer member is nearer
closest-nearer : (P : ℕ → Type 0) (key me z y : ℕ) → IsClosest P key y → P z → is_nearer z me key ≡ true → is_nearer y me key ≡ true
closest-nearer P key me z y c pz n =
    true_from_ne_false (is_nearer y me key) (λ f.
    let nearer : is_nearer z y key ≡ true = is_nearer-weaker z me y key n f in
    elim (cases_eq z y) [
      | inl e ↦ let same : is_nearer y me key ≡ true = subst (λ w. is_nearer w me key ≡ true) e n in cc
      | inr ne ↦ let not_nearer = c.nearest z pz ne in cc
    ])

leaf_goes : (me : ℕ) (known : List ℕ) (key y : ℕ) → NearerLeaf me known key → to_leaf me known key ≡ To y → GoesOn me known key y
leaf_goes me known key y h e = by (closest_in key (leaves me known)) refl e where
  by : (o : Option ℕ) → closest_in key (leaves me known) ≡ o → to_nearest o ≡ To y → GoesOn me known key y
  by None f g = cc
  by (Some x) f g = subst (GoesOn me known key) (same_hop x y g) (record {
    known_to_me = leaf-known me known x closest.member;
    nearer = closest-nearer (Contains (leaves me known)) key me h.leaf x closest h.is_leaf h.nearer;
  }) where
    closest : IsClosest (Contains (leaves me known)) key x
    closest = closest_in-closest (leaves me known) key x f

better-known : (me : ℕ) (known : List ℕ) (key x : ℕ) → Contains (filter (is_better me key) (leaves me known ++ entries_of me known)) x → GoesOn me known key x
better-known me known key x c =
    let kept = Contains-from_filter (is_better me key) (leaves me known ++ entries_of me known) x c in
    record {
      known_to_me = elim (Contains-append_cases (leaves me known) (entries_of me known) x kept.0) [
        | inl l ↦ leaf-known me known x l
        | inr n ↦ (Contains-from_filter (is_entry me known) known x n).0
      ];
      nearer = (and_parts (nat_le (shared_of me key) (shared_of x key)) (is_nearer x me key) kept.1).1;
    }

any_goes : (me : ℕ) (known : List ℕ) (key y : ℕ) → NearerLeaf me known key → to_any me known key ≡ To y → GoesOn me known key y
any_goes me known key y h e = by (closest_in key better) refl e where
  better : List ℕ
  better = filter (is_better me key) (leaves me known ++ entries_of me known)

  by : (o : Option ℕ) → closest_in key better ≡ o → to_better me known key o ≡ To y → GoesOn me known key y
  by None f g = leaf_goes me known key y h g
  by (Some x) f g = subst (GoesOn me known key) (same_hop x y g) (better-known me known key x (closest_in-closest better key x f).member)

prefix_goes : (me : ℕ) (known : List ℕ) (key y : ℕ) → NearerLeaf me known key → by_prefix me known key ≡ To y → GoesOn me known key y
prefix_goes me known key y h e = by (entry_of me known (shared_of me key) (digit_of key (shared_of me key))) refl e where
  by : (o : Option ℕ) → entry_of me known (shared_of me key) (digit_of key (shared_of me key)) ≡ o → to_entry me known key o ≡ To y → GoesOn me known key y
  by None f g = any_goes me known key y h g
  by (Some x) f g =
      elim (cases_Bool (is_nearer x me key)) [
        | inl n ↦ subst (GoesOn me known key) (same_hop x y (sym (cond-true (is_nearer x me key) (To x) (to_any me known key) n) ∙ g))
            (record { known_to_me = found-known (belongs me (shared_of me key) (digit_of key (shared_of me key))) known x f; nearer = n })
        | inr n ↦ any_goes me known key y h (sym (cond-false (is_nearer x me key) (To x) (to_any me known key) n) ∙ g)
      ]

onward_goes : (me : ℕ) (known : List ℕ) (key y : ℕ) → NearerLeaf me known key → onward me known key ≡ To y → GoesOn me known key y
onward_goes me known key y h e =
    elim (cases_Bool (in_leaf_range me known key)) [
      | inl n ↦ leaf_goes me known key y h (sym (cond-true (in_leaf_range me known key) (to_leaf me known key) (by_prefix me known key) n) ∙ e)
      | inr n ↦ prefix_goes me known key y h (sym (cond-false (in_leaf_range me known key) (to_leaf me known key) (by_prefix me known key) n) ∙ e)
    ]

unless_goes : (r : Reach) (known : List ℕ) (key y : ℕ) (o : Option ℕ) → CanGoOn r known key → covers_of r key ≡ false → gap_of r key ≡ o →
    unless_gap r known key o ≡ To y → GoesOn r.me known key y
unless_goes r known key y None g out none e = onward_goes r.me known key y (nearer_leaf r known key g out none) e
unless_goes r known key y (Some j) g out gap e = cc

-- the next hop is known, and nearer to the key
pub next_hop_goes_on : (r : Reach) (known : List ℕ) (key y : ℕ) → CanGoOn r known key → next_hop_of r known key ≡ To y → GoesOn r.me known key y
next_hop_goes_on r known key y g e =
    elim (cases_Bool (covers_of r key)) [
      | inl c ↦ let here : next_hop_of r known key ≡ Here = cond-true (covers_of r key) Here (unless_gap r known key (gap_of r key)) c in cc
      | inr out ↦ unless_goes r known key y (gap_of r key) g out refl (sym (cond-false (covers_of r key) Here (unless_gap r known key (gap_of r key)) out) ∙ e)
    ]

-- ---- and what Here and Gap say

-- onward from a node with a nearer leaf is always to somebody
leaf_to : (me : ℕ) (known : List ℕ) (key : ℕ) → NearerLeaf me known key → (y : ℕ) × (to_leaf me known key ≡ To y)
leaf_to me known key h = by (leaves me known) h.is_leaf where
  by : (xs : List ℕ) → Contains xs h.leaf → (y : ℕ) × (to_nearest (closest_in key xs) ≡ To y)
  by [] c = absurd (Contains-none h.leaf c)
  by (x ∷ xs) c = (closest_from key x xs, refl)

better_to : (me : ℕ) (known : List ℕ) (key : ℕ) (o : Option ℕ) → NearerLeaf me known key → (y : ℕ) × (to_better me known key o ≡ To y)
better_to me known key None h = leaf_to me known key h
better_to me known key (Some x) h = (x, refl)

entry_to : (me : ℕ) (known : List ℕ) (key : ℕ) (o : Option ℕ) → NearerLeaf me known key → (y : ℕ) × (to_entry me known key o ≡ To y)
entry_to me known key None h = better_to me known key (closest_in key (filter (is_better me key) (leaves me known ++ entries_of me known))) h
entry_to me known key (Some x) h =
    cond_both (is_nearer x me key) (To x) (to_any me known key) (λ (z : Hop). (y : ℕ) × (z ≡ To y)) (λ _. (x, refl))
    (λ _. better_to me known key (closest_in key (filter (is_better me key) (leaves me known ++ entries_of me known))) h)

onward_to : (me : ℕ) (known : List ℕ) (key : ℕ) → NearerLeaf me known key → (y : ℕ) × (onward me known key ≡ To y)
onward_to me known key h =
    cond_both (in_leaf_range me known key) (to_leaf me known key) (by_prefix me known key) (λ (z : Hop). (y : ℕ) × (z ≡ To y)) (λ _. leaf_to me known key h)
    (λ _. entry_to me known key (entry_of me known (shared_of me key) (digit_of key (shared_of me key))) h)

unless_here : (r : Reach) (known : List ℕ) (key : ℕ) (o : Option ℕ) → CanGoOn r known key → covers_of r key ≡ false → gap_of r key ≡ o →
    unless_gap r known key o ≡ Here → ⊥
unless_here r known key None g out none e = let to = onward_to r.me known key (nearer_leaf r known key g out none) in let f = to.1 in cc
unless_here r known key (Some j) g out gap e = cc

-- where the next hop is Here the node covers the key
pub next_hop-here : (r : Reach) (known : List ℕ) (key : ℕ) → CanGoOn r known key → next_hop_of r known key ≡ Here → covers_of r key ≡ true
next_hop-here r known key g e =
    true_from_ne_false (covers_of r key) (λ out. unless_here r known key (gap_of r key) g out refl
    (sym (cond-false (covers_of r key) Here (unless_gap r known key (gap_of r key)) out) ∙ e))

same_gap : (i j : ℕ) → Gap i ≡ Gap j → i ≡ j
same_gap i j e = cc

leaf_gap : (o : Option ℕ) (j : ℕ) → to_nearest o ≡ Gap j → ⊥
leaf_gap None j e = cc
leaf_gap (Some y) j e = cc

better_gap : (me : ℕ) (known : List ℕ) (key j : ℕ) (o : Option ℕ) → to_better me known key o ≡ Gap j → ⊥
better_gap me known key j None e = leaf_gap (closest_in key (leaves me known)) j e
better_gap me known key j (Some y) e = cc

entry_gap : (me : ℕ) (known : List ℕ) (key j : ℕ) (o : Option ℕ) → to_entry me known key o ≡ Gap j → ⊥
entry_gap me known key j None e = better_gap me known key j (closest_in key (filter (is_better me key) (leaves me known ++ entries_of me known))) e
entry_gap me known key j (Some y) e =
    cond_both (is_nearer y me key) (To y) (to_any me known key) (λ (z : Hop). z ≡ Gap j → ⊥) (λ _ f. cc)
    (λ _. better_gap me known key j (closest_in key (filter (is_better me key) (leaves me known ++ entries_of me known)))) e

onward_gap : (me : ℕ) (known : List ℕ) (key j : ℕ) → onward me known key ≡ Gap j → ⊥
onward_gap me known key j e =
    cond_both (in_leaf_range me known key) (to_leaf me known key) (by_prefix me known key) (λ (z : Hop). z ≡ Gap j → ⊥)
    (λ _. leaf_gap (closest_in key (leaves me known)) j)
    (λ _. entry_gap me known key j (entry_of me known (shared_of me key) (digit_of key (shared_of me key)))) e

unless_gap_is : (r : Reach) (known : List ℕ) (key j : ℕ) (o : Option ℕ) → gap_of r key ≡ o → unless_gap r known key o ≡ Gap j → gap_of r key ≡ Some j
unless_gap_is r known key j None none e = absurd (onward_gap r.me known key j e)
unless_gap_is r known key j (Some i) gap e = gap ∙ ap Some (same_gap i j e)

-- and where it is Gap, the key is in the gap of that joiner
pub next_hop-gap : (r : Reach) (known : List ℕ) (key j : ℕ) → next_hop_of r known key ≡ Gap j → gap_of r key ≡ Some j
next_hop-gap r known key j e =
    elim (cases_Bool (covers_of r key)) [
      | inl c ↦ let here : next_hop_of r known key ≡ Here = cond-true (covers_of r key) Here (unless_gap r known key (gap_of r key)) c in cc
      | inr out ↦ unless_gap_is r known key j (gap_of r key) refl (sym (cond-false (covers_of r key) Here (unless_gap r known key (gap_of r key)) out) ∙ e)
    ]
