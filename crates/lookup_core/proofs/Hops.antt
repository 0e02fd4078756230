-- The cases of the next hop by what the knowledge of a node gives.
use Rattle.std.proofs.Common.{◌≡◌, ◌≢◌, ℕ, ◌<◌, ◌^◌, Bool, true, false, cond, ◌||◌, ◌==◌, List, Option, Some, None, refl}
use Rattle.std.proofs.Common.{sym, ap, ◌∙◌, subst, arith}
use Rattle.std.proofs.lemmas.Bool.{cond-true, cond-false, or_left}
use Rattle.std.proofs.lemmas.Bool.{eq-eqb}
use Rattle.ring_math.specs.declared.limits.TheConstants.{DIGITS, DIGIT_VALUES}
use Rattle.ring_math.specs.declared.direction.Direction.TheVariants.{Clockwise, Counterclockwise}
use Rattle.ring_math.specs.Direction.{reaches}
use Rattle.ring_math.specs.Ring.{digit_of, shared_of, is_nearer}
use Rattle.ring_math.specs.Sides.{entry_of}
use Rattle.coverage.specs.declared.Reach.{Reach}
use Rattle.coverage.specs.declared.Hop.{Hop}
use Rattle.coverage.specs.declared.Hop.TheVariants.{Here, To}
use Rattle.coverage.specs.Coverage.{covers_of, gap_of, in_arcs, is_alone, left_end, right_end}
use Rattle.coverage.specs.Known.{KnowsLinks}
use Rattle.coverage.specs.NextHop.{in_leaf_range, to_leaf, to_any, to_entry, by_prefix, onward, unless_gap, next_hop_of}
use Rattle.coverage.proofs.Hops.{next_hop-nearer}
use Rattle.leaf_set.specs.Leaves.{Leaves, StandsFor as LeafSetStandsFor}
use Rattle.leaf_set.specs.Range.{is_in_range}
use Rattle.route_table.specs.Entries.{entry_in}
use Rattle.lookup_core.specs.Kept.{Kept, StandsFor, Others, if_nearer}

-- ---- in leaf range

or_same : (a b c d : Bool) → a ≡ c → b ≡ d → a || b ≡ c || d
or_same a b c d e f = rw (e, f) refl

in_range-is : (s : Leaves) (known : List ℕ) (key : ℕ) → LeafSetStandsFor s known → is_in_range s key ≡ in_leaf_range s.me known key
in_range-is s known key st =
    or_same _ _ _ _ (ap (λ side. reaches s.me Clockwise side key) st.right) (ap (λ side. reaches s.me Counterclockwise side key) st.left)

pub onward_leaf : (s : Leaves) (known : List ℕ) (key : ℕ) → LeafSetStandsFor s known → is_in_range s key ≡ true → to_leaf s.me known key ≡ onward s.me known key
onward_leaf s known key st e = sym (cond-true (in_leaf_range s.me known key) (to_leaf s.me known key) (by_prefix s.me known key)
    (sym (in_range-is s known key st) ∙ e))

pub onward_prefix : (s : Leaves) (known : List ℕ) (key : ℕ) → LeafSetStandsFor s known → is_in_range s key ≡ false →
    by_prefix s.me known key ≡ onward s.me known key
onward_prefix s known key st e = sym (cond-false (in_leaf_range s.me known key) (to_leaf s.me known key) (by_prefix s.me known key)
    (sym (in_range-is s known key st) ∙ e))

-- ---- by prefix

pub entry_is : (k : Kept) (known : List ℕ) (me row col : ℕ) (key : ℕ) → StandsFor k known → me ≡ k.leafs.me → row ≡ shared_of me key → row < DIGITS →
    col ≡ digit_of key row → entry_in k.table row col ≡ entry_of k.leafs.me known (shared_of k.leafs.me key) (digit_of key (shared_of k.leafs.me key))
entry_is k known me row col key st same shares hr digit =
    let hc : col < DIGIT_VALUES = omega (arith, digit) in
    let row_is : row ≡ shared_of k.leafs.me key = shares ∙ ap (λ m. shared_of m key) same in
    let col_is : col ≡ digit_of key (shared_of k.leafs.me key) = digit ∙ ap (digit_of key) row_is in
    st.table.entry row col hr hc ∙ ap (λ m. entry_of m known row col) st.me ∙ ap (λ r. entry_of k.leafs.me known r col) row_is
    ∙ ap (entry_of k.leafs.me known (shared_of k.leafs.me key)) col_is

pub to_entry-some : (me : ℕ) (known : List ℕ) (key y : ℕ) (o : Option ℕ) → Some y ≡ if_nearer o me key → To y ≡ to_entry me known key o
to_entry-some me known key y None e = cc
to_entry-some me known key y (Some x) e = by (is_nearer x me key) e where
  by : (b : Bool) → Some y ≡ cond b (Some x) None → To y ≡ cond b (To x) (to_any me known key)
  by true h = cc
  by false h = cc

pub to_entry-none : (me : ℕ) (known : List ℕ) (key : ℕ) (o : Option ℕ) → None ≡ if_nearer o me key → to_any me known key ≡ to_entry me known key o
to_entry-none me known key None e = refl
to_entry-none me known key (Some x) e = by (is_nearer x me key) e where
  by : (b : Bool) → None ≡ cond b (Some x) None → to_any me known key ≡ cond b (To x) (to_any me known key)
  by true h = cc
  by false h = refl

-- ---- the whole

pub others_of : (r : Reach) (known : List ℕ) (me : ℕ) → me ≡ r.me → KnowsLinks r known → Others me known
others_of r known me e k = subst (λ m. Others m known) (sym e) (record { bound = k.me; in_ring = k.in_ring; others = k.others })

pub covers-me : (r : Reach) (key : ℕ) → covers_of r key ≡ false → key ≢ r.me
unfolding in_arcs
covers-me r key out same =
    let whole : covers_of r key ≡ true = or_left (in_arcs r.me (left_end r) (right_end r) key) (is_alone r)
    (or_left (key == r.me) _ (eq-eqb key r.me same)) in cc

pub hop-here : (r : Reach) (known : List ℕ) (key : ℕ) → covers_of r key ≡ true → Here ≡ next_hop_of r known key
hop-here r known key e = sym (cond-true (covers_of r key) Here (unless_gap r known key (gap_of r key)) e)

pub hop-gap : (r : Reach) (known : List ℕ) (key : ℕ) (o : Option ℕ) → covers_of r key ≡ false → o ≡ gap_of r key →
    unless_gap r known key o ≡ next_hop_of r known key
hop-gap r known key o out gap = ap (unless_gap r known key) gap ∙ sym (cond-false (covers_of r key) Here (unless_gap r known key (gap_of r key)) out)

pub hop-nearer : (r : Reach) (known : List ℕ) (key y : ℕ) (hop : Hop) → KnowsLinks r known → key < 2 ^ 128 → hop ≡ next_hop_of r known key → hop ≡ To y →
    is_nearer y r.me key ≡ true
hop-nearer r known key y hop k hk is to = (next_hop-nearer r known key y k hk (sym is ∙ to)).1
