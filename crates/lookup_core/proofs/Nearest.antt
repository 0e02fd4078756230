-- The closest of a list by what was found in a set, and the sets of leaves and entries that a table and two sides hold.
use Rattle.std.proofs.Common.{◌≡◌, ◌≢◌, ℕ, ◌+◌, ◌*◌, ◌/◌, ◌%◌, ◌<◌, ◌^◌, ◌⊎◌, Bool, true, ◌==◌, List, [], ◌∷◌, ◌++◌, length, get_or, find, filter}
use Rattle.std.proofs.Common.{Option, Some, None, MatchOption, refl, sym, ap, ◌∙◌, subst, arith, inl, inr}
use Rattle.std.specs.List.{Contains}
use Rattle.std.proofs.lemmas.Bool.{cases_Bool, cond-true, cond-false, and_parts, eqb-true, eq-eqb}
use Rattle.std.proofs.lemmas.List.{get_or_default}
use Rattle.std.proofs.lemmas.List.Elements.{Contains-append_left, Contains-append_right, Contains-append_cases}
use Rattle.ring_math.specs.declared.limits.TheConstants.{DIGITS, DIGIT_VALUES}
use Rattle.ring_math.specs.Ring.{digit_of, shared_of}
use Rattle.ring_math.specs.Members.{InRing, IsClosest}
use Rattle.ring_math.specs.Sides.{leaves, also_of, right_side, belongs, entry_of, entries_of, is_entry, is_some_at}
use Rattle.ring_math.proofs.Neighbours.{closest_one}
use Rattle.ring_math.proofs.Membership.{Contains-here, Contains-none, Contains-filter, Contains-from_filter}
use Rattle.ring_math.proofs.Prefixes.{digit_of-shared}
use Rattle.coverage.specs.Closest.{closest_in, closest_from}
use Rattle.coverage.specs.NextHop.{is_better}
use Rattle.coverage.proofs.Nearest.{closest_in-closest}
use Rattle.coverage.proofs.Leaves.{leaf_is_known, entry_is_known}
use Rattle.leaf_set.specs.Leaves.{Leaves, StandsFor as LeafSetStandsFor, Improves as LeafImproves, in_order}
use Rattle.ring_math.specs.Nearer.{nearer_of}
use Rattle.ring_math.proofs.Found.{Found, found_same, found_both, either, says_found, listed_found}
use Rattle.leaf_set.proofs.Found.{better_in}
use Rattle.route_table.specs.Entries.{Table, StandsFor as TableStandsFor, Improves as EntryImproves, entry_in}
use Rattle.lookup_core.specs.Kept.{Kept, StandsFor, Others}

-- what was found among the members of a list is what `closest_in` gives
pub closest_in-found : (xs : List ℕ) (key : ℕ) (o : Option ℕ) → InRing (Contains xs) → key < 2 ^ 128 → Found (Contains xs) key o → o ≡ closest_in key xs
closest_in-found [] key None range hk h = refl
closest_in-found [] key (Some y) range hk h = absurd (Contains-none y (h.some y refl).member)
closest_in-found (x ∷ xs) key None range hk h = absurd (h.none refl x (Contains-here x xs))
closest_in-found (x ∷ xs) key (Some y) range hk h =
    ap Some (closest_one (Contains (x ∷ xs)) key y (closest_from key x xs) range hk (h.some y refl)
    (closest_in-closest (x ∷ xs) key (closest_from key x xs) refl))

-- ---- leaves

in_order-leaves : (s : Leaves) (known : List ℕ) → LeafSetStandsFor s known → in_order s ≡ leaves s.me known
in_order-leaves s known st = ap (λ r. also_of r s.left) st.right ∙ ap (λ l. also_of (right_side s.me known) l) st.left

leaves-in_ring : (me : ℕ) (known : List ℕ) → Others me known → InRing (Contains (leaves me known))
leaves-in_ring me known o z c = o.in_ring z (leaf_is_known me known z c)

pub nearest_leaf_is : (s : Leaves) (known : List ℕ) (key : ℕ) (found : Option ℕ) → LeafSetStandsFor s known → Others s.me known → key < 2 ^ 128 →
    MatchOption found (in_order s ≡ []) (λ y. IsClosest (Contains (in_order s)) key y) → found ≡ closest_in key (leaves s.me known)
nearest_leaf_is s known key found st o hk says =
    closest_in-found (leaves s.me known) key found (leaves-in_ring s.me known o) hk
    (subst (λ ids. Found (Contains ids) key found) (in_order-leaves s known st) (listed_found (in_order s) key found says))

-- ---- entries

passes : (p : ℕ → Bool) (xs : List ℕ) (y : ℕ) → find p xs ≡ Some y → p y ≡ true
passes p [] y e = cc
passes p (x ∷ xs) y e =
    elim (cases_Bool (p x)) [
      | inl t ↦ let some : find p (x ∷ xs) ≡ Some x = cond-true (p x) (Some x) (find p xs) t in let same : x ≡ y = cc in subst (λ w. p w ≡ true) same t
      | inr f ↦ let rest : find p xs ≡ Some y = sym (cond-false (p x) (Some x) (find p xs) f) ∙ e in passes p xs y rest
    ]

entry_is_entry : (me row col : ℕ) (known : List ℕ) (z : ℕ) → entry_of me known row col ≡ Some z → Contains (entries_of me known) z
entry_is_entry me row col known z e =
    let parts = and_parts (shared_of me z == row) (digit_of z row == col) (passes (belongs me row col) known z e) in
    let same_row : shared_of me z ≡ row = eqb-true (shared_of me z) row parts.0 in
    let same_col : digit_of z row ≡ col = eqb-true (digit_of z row) col parts.1 in
    let here : entry_of me known (shared_of me z) (digit_of z (shared_of me z)) ≡ Some z =
    subst (λ r. entry_of me known r (digit_of z r) ≡ Some z) (sym same_row) (subst (λ d. entry_of me known row d ≡ Some z) (sym same_col) e) in
    Contains-filter (is_entry me known) known z (entry_is_known me row col known z e) (ap (is_some_at z) here ∙ eq-eqb z z refl)

some_at : (z : ℕ) (o : Option ℕ) → is_some_at z o ≡ true → o ≡ Some z
some_at z None e = cc
some_at z (Some x) e = ap Some (eqb-true x z e)

module _ (t : Table) (known : List ℕ) (st : TableStandsFor t known) where
  held_is_entry : (z : ℕ) → Contains t.entries (Some z) → Contains (entries_of t.me known) z
  held_is_entry z (k, lt, at) =
      let size = st.size in
      let row : k / DIGIT_VALUES < DIGITS = omega arith in
      let col : k % DIGIT_VALUES < DIGIT_VALUES = omega arith in
      let place : DIGIT_VALUES * (k / DIGIT_VALUES) + k % DIGIT_VALUES ≡ k = omega arith in
      let read : get_or t.entries k None ≡ Some z = get_or_default t.entries k None (Some z) lt ∙ at in
      let held : entry_in t (k / DIGIT_VALUES) (k % DIGIT_VALUES) ≡ Some z = subst (λ i. get_or t.entries i None ≡ Some z) (sym place) read in
      entry_is_entry t.me (k / DIGIT_VALUES) (k % DIGIT_VALUES) known z (sym (st.entry (k / DIGIT_VALUES) (k % DIGIT_VALUES) row col) ∙ held)

  entry_is_held : (z : ℕ) → Others t.me known → Contains (entries_of t.me known) z → Contains t.entries (Some z)
  entry_is_held z o c =
      let (in_known, e) = Contains-from_filter (is_entry t.me known) known z c in
      let hz : z < 2 ^ 128 = o.in_ring z in_known in
      let other : t.me ≢ z = λ same. o.others (subst (Contains known) (sym same) in_known) in
      let row : shared_of t.me z < DIGITS = (digit_of-shared t.me z o.bound hz other).0 in
      let col : digit_of z (shared_of t.me z) < DIGIT_VALUES = omega arith in
      let size = st.size in
      let held = st.entry (shared_of t.me z) (digit_of z (shared_of t.me z)) row col in
      let found : get_or t.entries (DIGIT_VALUES * shared_of t.me z + digit_of z (shared_of t.me z)) None ≡ Some z = held ∙ some_at z _ e in
      let lt : DIGIT_VALUES * shared_of t.me z + digit_of z (shared_of t.me z) < length t.entries = omega arith in
      (DIGIT_VALUES * shared_of t.me z + digit_of z (shared_of t.me z), lt, get_or_default t.entries _ (Some z) None lt ∙ found)

-- ---- the better leaves and entries

abbrev better_entry : List (Option ℕ) → ℕ → ℕ → ℕ → ℕ → Type 0
better_entry entries key least than z = EntryImproves entries key least than z

module _ (me : ℕ) (known : List ℕ) (key : ℕ) (o : Others me known) where
  abbrev candidates : List ℕ
  candidates = filter (is_better me key) (leaves me known ++ entries_of me known)

  candidates-in_ring : InRing (Contains candidates)
  candidates-in_ring z c =
      let (there, better) = Contains-from_filter (is_better me key) (leaves me known ++ entries_of me known) z c in
      elim (Contains-append_cases (leaves me known) (entries_of me known) z there) [
        | inl l ↦ o.in_ring z (leaf_is_known me known z l)
        | inr e ↦ o.in_ring z (Contains-from_filter (is_entry me known) known z e).0
      ]

  pub best_is : (entries : List (Option ℕ)) (a b : Option ℕ) → key < 2 ^ 128 →
      ((z : ℕ) → Contains entries (Some z) → Contains (entries_of me known) z) → ((z : ℕ) → Contains (entries_of me known) z → Contains entries (Some z)) →
      Found (better_in (leaves me known) key (shared_of me key) me) key a → Found (better_entry entries key (shared_of me key) me) key b →
      nearer_of a b key ≡ closest_in key candidates
  best_is entries a b hk out in_it h k =
      closest_in-found candidates key (nearer_of a b key) candidates-in_ring hk
      (found_same (either L E) (Contains candidates) key (nearer_of a b key) there back (found_both L E key a b h k)) where
        L : ℕ → Type 0
        L z = LeafImproves (leaves me known) key (shared_of me key) me z

        E : ℕ → Type 0
        E z = EntryImproves entries key (shared_of me key) me z

        there : (z : ℕ) → L z ⊎ E z → Contains candidates z
        there z (inl p) = Contains-filter (is_better me key) (leaves me known ++ entries_of me known) z
            (Contains-append_left (leaves me known) (entries_of me known) z p.member) p.better
        there z (inr p) = Contains-filter (is_better me key) (leaves me known ++ entries_of me known) z
            (Contains-append_right (leaves me known) (entries_of me known) z (out z p.entry)) p.better

        back : (z : ℕ) → Contains candidates z → L z ⊎ E z
        back z c =
            let (both, better) = Contains-from_filter (is_better me key) (leaves me known ++ entries_of me known) z c in
            elim (Contains-append_cases (leaves me known) (entries_of me known) z both) [
              | inl l ↦ inl (record { member = l; better = better })
              | inr e ↦ inr (record { entry = in_it z e; better = better })
            ]

pub best_known_is : (k : Kept) (known : List ℕ) (key least than : ℕ) (a b : Option ℕ) → StandsFor k known → Others k.leafs.me known → key < 2 ^ 128 →
    than ≡ k.leafs.me → least ≡ shared_of than key →
    MatchOption a ((z : ℕ) → LeafImproves (in_order k.leafs) key least than z → ⊥)
    (λ y. IsClosest (λ z. LeafImproves (in_order k.leafs) key least than z) key y) →
    MatchOption b ((z : ℕ) → EntryImproves k.table.entries key least than z → ⊥) (λ y. IsClosest (λ z. EntryImproves k.table.entries key least than z) key y) →
    nearer_of a b key ≡ closest_in key (filter (is_better k.leafs.me key) (leaves k.leafs.me known ++ entries_of k.leafs.me known))
best_known_is k known key least than a b st o hk me shares says_a says_b =
    best_is k.leafs.me known key o k.table.entries a b hk out in_it
    (subst (λ ids. Found (better_in ids key (shared_of k.leafs.me key) k.leafs.me) key a) (in_order-leaves k.leafs known st.leafs)
    (subst (λ m. Found (better_in (in_order k.leafs) key (shared_of m key) m) key a) me
    (subst (λ n. Found (better_in (in_order k.leafs) key n than) key a) shares (says_found (better_in (in_order k.leafs) key least than) key a says_a))))
    (subst (λ m. Found (better_entry k.table.entries key (shared_of m key) m) key b) me
    (subst (λ n. Found (better_entry k.table.entries key n than) key b) shares (says_found (better_entry k.table.entries key least than) key b says_b))) where
      others : Others k.table.me known
      others = subst (λ m. Others m known) (sym st.me) o

      out : (z : ℕ) → Contains k.table.entries (Some z) → Contains (entries_of k.leafs.me known) z
      out z c = subst (λ m. Contains (entries_of m known) z) st.me (held_is_entry k.table known st.table z c)

      in_it : (z : ℕ) → Contains (entries_of k.leafs.me known) z → Contains k.table.entries (Some z)
      in_it z c = entry_is_held k.table known st.table z others (subst (λ m. Contains (entries_of m known) z) (sym st.me) c)
