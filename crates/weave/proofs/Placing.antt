-- The entries of histories as they are listed: each stands in its history at its place.
use Rattle.std.proofs.Common.{◌≡◌, ◌<◌, ◌≤◌, ℕ, suc, ◌+◌, Some, List, [], ◌∷◌, ◌++◌, map, length, slice_get, Contains, All, refl, sym}
use Rattle.std.proofs.Common.{subst, ap, ◌∙◌, append_assoc, length-append, arith}
use Rattle.std.proofs.lemmas.List.{map-append}
use Rattle.std.proofs.lemmas.List.Elements.{All-cons, All-head, All-tail}
use Rattle.std.proofs.lemmas.List.Concat.{flat_map-cons}
use Rattle.ring_math.specs.Names.{Id}
use Rattle.overlay_rules.proofs.Each.{Each, Each-append, Each-all, Each-contains, Each-from_all}
use Rattle.weave_laws.specs.Cells.{CellEntry, History, AreStampedAfter}
use Rattle.weave_laws.specs.Woven.{Act}
use Rattle.weave_laws.proofs.Sorted.{acts_of}
use Rattle.weave.specs.declared.acts.Act.{Act as CodeAct}
use Rattle.weave.specs.Cells.{AreKept, IsKept}
use Rattle.weave.specs.Placed.{IsEntryIn, IsWithin, Placed, act_at, acts_from, acts_in, all_placed, entry_at, history_at, placed, placed_from, placed_in}

-- ---- all entries

abbrev at : Id → CellEntry → Act
at x e = record { node = x; entry = e }

acts-placed : (x : Id) (n : ℕ) (es : List CellEntry) → acts_in (placed_from x n es) ≡ map (at x) es
acts-placed x n [] = refl
acts-placed x n (e ∷ es) = ap (λ acts. at x e ∷ acts) (acts-placed x (suc n) es)

pub acts-all : (hs : List History) → acts_in (all_placed hs) ≡ acts_of hs
acts-all [] = refl
acts-all (h ∷ hs) =
    ap acts_in (flat_map-cons placed_in h hs)
    ∙ map-append (λ (p : Placed). p.act) (placed_in h) (all_placed hs)
    ∙ ap (λ acts. acts ++ acts_in (all_placed hs)) (acts-placed h.node 0 h.entries)
    ∙ ap (λ acts. map (at h.node) h.entries ++ acts) (acts-all hs)

-- ---- where they stand

get_seam : {A : Type 0} (xs : List A) (x : A) (ys : List A) (n : ℕ) → n ≡ length xs → slice_get (xs ++ x ∷ ys) n ≡ Some x
get_seam [] x ys n is = subst (λ k. slice_get (x ∷ ys) k ≡ Some x) (sym is) refl
get_seam (y ∷ xs) x ys n is = subst (λ k. slice_get (y ∷ (xs ++ x ∷ ys)) k ≡ Some x) (sym is) (get_seam xs x ys (length xs) refl)

each_stands : (hs : List History) (h : History) → Contains hs h → (before es : List CellEntry) (n : ℕ) → h.entries ≡ before ++ es → n ≡ length before →
    Each (IsEntryIn hs) (placed_from h.node n es)
each_stands hs h c before [] n is len = tt
each_stands hs h c before (e ∷ es) n is len = (
  record {
    stands = record {
      history = h;
      among = c;
      node = refl;
      there = subst (λ ds. slice_get ds n ≡ Some e) (sym is) (get_seam before e es n len);
    };
    stamped = refl;
  },
  each_stands hs h c (before ++ e ∷ []) es (suc n) (is ∙ sym (append_assoc before (e ∷ []) es))
      (let long = length-append before (e ∷ []) in omega arith),
)

pub later : {A : Type 0} (y : A) (xs : List A) (x : A) → Contains xs x → Contains (y ∷ xs) x
later y xs x (k, lt, e) = (suc k, omega arith, e)

each_placed : (hs ks : List History) → ((h : History) → Contains ks h → Contains hs h) → Each (IsEntryIn hs) (all_placed ks)
each_placed hs [] among = tt
each_placed hs (k ∷ ks) among =
    subst (Each (IsEntryIn hs)) (sym (flat_map-cons placed_in k ks))
    (Each-append (IsEntryIn hs) (placed_in k) (all_placed ks)
    (each_stands hs k (among k (0, omega arith, refl)) [] k.entries 0 refl refl)
    (each_placed hs ks (λ h c. among h (later k ks h c))))

pub all-placed : (hs : List History) → All (IsEntryIn hs) (all_placed hs)
all-placed hs = Each-all (IsEntryIn hs) (all_placed hs) (each_placed hs hs (λ h c. c))

-- the stamp beside each is its own
pub all_stamped : (hs : List History) (xs : List CodeAct) → All (IsEntryIn hs) (map (placed hs) xs) →
    All (λ (a : CodeAct). a.stamp ≡ (act_at hs a).entry.stamp) xs
all_stamped hs xs h = all xs h where
  all : (ys : List CodeAct) → All (IsEntryIn hs) (map (placed hs) ys) → All (λ (a : CodeAct). a.stamp ≡ (act_at hs a).entry.stamp) ys
  all [] g = λ k d lt. absurd (omega arith)
  all (y ∷ ys) g =
      All-cons (λ (a : CodeAct). a.stamp ≡ (act_at hs a).entry.stamp) y ys (All-head (IsEntryIn hs) (placed hs y) (map (placed hs) ys) g).stamped
      (all ys (All-tail (IsEntryIn hs) (placed hs y) (map (placed hs) ys) g))

pub stamped_histories : (hs : List History) → AreKept hs → (h : History) → Contains hs h → AreStampedAfter 0 h.entries
stamped_histories hs l h c = (Each-contains IsKept hs h (Each-from_all IsKept hs l) c).history.stamps

-- ---- as they are kept: by the number of the history and the place

-- one more entry
pub acts_from-push : (n k : ℕ) (es : List CellEntry) (e : CellEntry) (m : ℕ) → m ≡ k + length es →
    acts_from n k (es ++ e ∷ []) ≡ acts_from n k es ++ record { stamp = e.stamp; history = n; place = m } ∷ []
acts_from-push n k [] e m is = let same : k ≡ m = omega arith in ap (λ p. record { stamp = e.stamp; history = n; place = p } ∷ []) same
acts_from-push n k (d ∷ es) e m is =
    ap (λ (acts : List CodeAct). record { stamp = d.stamp; history = n; place = k } ∷ acts) (acts_from-push n (suc k) es e m (omega arith))

entry-seam : (before : List CellEntry) (e : CellEntry) (es : List CellEntry) (n : ℕ) → n ≡ length before → entry_at (before ++ e ∷ es) n ≡ e
entry-seam [] e es n is = ap (entry_at (e ∷ es)) is
entry-seam (d ∷ before) e es n is = ap (entry_at (d ∷ (before ++ e ∷ es))) is ∙ entry-seam before e es (length before) refl

-- the entries of the n-th history
module _ (hs : List History) (n : ℕ) (lt : n < length hs) where
  placed-from : (before es : List CellEntry) (k : ℕ) → (history_at hs n).entries ≡ before ++ es → k ≡ length before →
      map (placed hs) (acts_from n k es) ≡ placed_from (history_at hs n).node k es
  placed-from before [] k is len = refl
  placed-from before (e ∷ es) k is len =
      let here : entry_at (history_at hs n).entries k ≡ e = ap (λ ds. entry_at ds k) is ∙ entry-seam before e es k len in
      let one : CellEntry → Placed = λ d. record { stamp = e.stamp; place = k; act = record { node = (history_at hs n).node; entry = d } } in
      ap (λ (d : CellEntry). one d ∷ map (placed hs) (acts_from n (suc k) es)) here
      ∙ ap (λ (ps : List Placed). one e ∷ ps)
      (placed-from (before ++ e ∷ []) es (suc k) (is ∙ sym (append_assoc before (e ∷ []) es)) (let long = length-append before (e ∷ []) in omega arith))

  pub placed-history : map (placed hs) (acts_from n 0 (history_at hs n).entries) ≡ placed_in (history_at hs n)
  placed-history = placed-from [] (history_at hs n).entries 0 refl refl

  each_within : (es : List CellEntry) (k : ℕ) → k + length es ≤ length (history_at hs n).entries → Each (IsWithin hs) (acts_from n k es)
  each_within [] k le = tt
  each_within (e ∷ es) k le = (record { history = lt; place = omega arith }, each_within es (suc k) (omega arith))

  pub all-within : All (IsWithin hs) (acts_from n 0 (history_at hs n).entries)
  all-within = Each-all (IsWithin hs) (acts_from n 0 (history_at hs n).entries) (each_within (history_at hs n).entries 0 (omega arith))

-- ---- where histories stand by node, their entries do, one behind the other

abbrev NoLower : Id → List Placed → Type 0
NoLower x ps = Each (λ (p : Placed). x ≤ p.act.node) ps

abbrev pub ByNode : List Placed → Type 0
ByNode [] = Unit {0}
ByNode (p ∷ ps) = NoLower p.act.node ps × ByNode ps

no_lower_from : (x y : Id) (n : ℕ) (es : List CellEntry) → x ≤ y → NoLower x (placed_from y n es)
no_lower_from x y n [] le = tt
no_lower_from x y n (e ∷ es) le = (le, no_lower_from x y (suc n) es le)

no_lower_all : (x : Id) (hs : List History) → Each (λ (h : History). x ≤ h.node) hs → NoLower x (all_placed hs)
no_lower_all x [] l = tt
no_lower_all x (h ∷ hs) l =
    subst (NoLower x) (sym (flat_map-cons placed_in h hs))
    (Each-append (λ (p : Placed). x ≤ p.act.node) (placed_in h) (all_placed hs) (no_lower_from x h.node 0 h.entries l.0) (no_lower_all x hs l.1))

by_node-append : (x : Id) (n : ℕ) (es : List CellEntry) (ps : List Placed) → NoLower x ps → ByNode ps → ByNode (placed_from x n es ++ ps)
by_node-append x n [] ps l b = b
by_node-append x n (e ∷ es) ps l b = (
  Each-append (λ (p : Placed). x ≤ p.act.node) (placed_from x (suc n) es) ps (no_lower_from x x (suc n) es (omega arith)) l,
  by_node-append x (suc n) es ps l b,
)

-- each history has no lower node than those before it
abbrev pub NodesRise : List History → Type 0
NodesRise [] = Unit {0}
NodesRise (h ∷ hs) = Each (λ (k : History). h.node ≤ k.node) hs × NodesRise hs

pub all_by_node : (hs : List History) → NodesRise hs → ByNode (all_placed hs)
all_by_node [] r = tt
all_by_node (h ∷ hs) r =
    subst ByNode (sym (flat_map-cons placed_in h hs))
    (by_node-append h.node 0 h.entries (all_placed hs) (no_lower_all h.node hs r.0) (all_by_node hs r.1))
