-- Where entries of histories stand in the woven order, and which come before another.
use Rattle.std.proofs.Common.{◌≡◌, ◌⊎◌, inl, inr, ℕ, zero, suc, ◌==◌, true, false, Some, List, [], ◌∷◌, ◌++◌, slice_get, Contains, All}
use Rattle.std.proofs.Common.{refl, sym, subst, ap, ◌∙◌, arith}
use Rattle.std.proofs.lemmas.Bool.{cases_Bool}
use Rattle.std.proofs.lemmas.Bool.Decides.{Decides-eqb}
use Rattle.std.proofs.lemmas.List.{map-append}
use Rattle.std.proofs.lemmas.Option.{get_or_from_slice_get, slice_get_within}
use Rattle.ring_math.specs.Names.{Id}
use Rattle.overlay_rules.proofs.Each.{Each, Each-contains, Each-from_all, Each-weaker}
use Rattle.weave_laws.specs.Cells.{CellEntry, History}
use Rattle.weave_laws.specs.Woven.{Act, part, ComesBefore, AreInOrder, IsWovenOrder}
use Rattle.weave_laws.proofs.Interleaved.{part-here, part-there}
use Rattle.weave.specs.Placed.{Placed, StandsAt, acts_in}
use Rattle.weave.proofs.Placing.{later}

-- ---- an entry of a history is among those in the woven order

abbrev pub act : Id → CellEntry → Act
act x e = record { node = x; entry = e }

act_of_part : (x : Id) (acts : List Act) → Each (λ (e : CellEntry). Contains acts (act x e)) (part x acts)
act_of_part x [] = tt
act_of_part x (a ∷ acts) = by_node (cases_Bool (a.node == x)) (act_of_part x acts) where
  all_later : Each (λ (e : CellEntry). Contains acts (act x e)) (part x acts) → Each (λ (e : CellEntry). Contains (a ∷ acts) (act x e)) (part x acts)
  all_later rest =
      Each-weaker (λ (e : CellEntry). Contains acts (act x e)) (λ (e : CellEntry). Contains (a ∷ acts) (act x e)) (part x acts)
      (λ e c. later a acts (act x e) c) rest

  by_node : (a.node == x ≡ true) ⊎ (a.node == x ≡ false) → Each (λ (e : CellEntry). Contains acts (act x e)) (part x acts) →
      Each (λ (e : CellEntry). Contains (a ∷ acts) (act x e)) (part x (a ∷ acts))
  by_node (inl t) rest =
      let is : a.node ≡ x = (Decides-eqb a.node x).0 t in
      let first : Contains (a ∷ acts) (act x a.entry) = (0, omega arith, ap (λ y. act y a.entry) is) in
      let whole : part x (a ∷ acts) ≡ a.entry ∷ part x acts = subst (λ y. part y (a ∷ acts) ≡ a.entry ∷ part y acts) is (part-here a acts) in
      subst (Each (λ (e : CellEntry). Contains (a ∷ acts) (act x e))) (sym whole) (first, all_later rest)
  by_node (inr t) rest = subst (Each (λ (e : CellEntry). Contains (a ∷ acts) (act x e))) (sym (part-there x a acts t)) (all_later rest)

pub entry_in_order : (hs : List History) (acts : List Act) → IsWovenOrder hs acts → (h : History) → Contains hs h → (e : CellEntry) → Contains h.entries e →
    Contains acts (act h.node e)
entry_in_order hs acts o h c e d =
    let whole : part h.node acts ≡ h.entries =
    Each-contains (λ (k : History). part k.node acts ≡ k.entries) hs h (Each-from_all (λ (k : History). part k.node acts ≡ k.entries) hs o.whole) c in
    Each-contains (λ (f : CellEntry). Contains acts (act h.node f)) h.entries e
    (subst (Each (λ (f : CellEntry). Contains acts (act h.node f))) whole (act_of_part h.node acts)) d

pub contains_get : {A : Type 0} (xs : List A) (n : ℕ) (x : A) → slice_get xs n ≡ Some x → Contains xs x
contains_get xs n x e = (n, slice_get_within xs n x e, get_or_from_slice_get xs n x x e)

pub placed_in_order : (hs : List History) (acts : List Act) → IsWovenOrder hs acts → (x : Id) (place : ℕ) (e : CellEntry) → StandsAt hs x place e →
    Contains acts (act x e)
placed_in_order hs acts o x place e s =
    subst (λ y. Contains acts (act y e)) s.node
    (entry_in_order hs acts o s.history s.among e (contains_get s.history.entries place e s.there))

-- ---- the woven order

pub never_both : (a b : Act) → ComesBefore a b → ComesBefore b a → ⊥
never_both a b (inl lt) (inl gt) = omega arith
never_both a b (inl lt) (inr (same, gt)) = omega arith
never_both a b (inr (same, lt)) (inl gt) = omega arith
never_both a b (inr (same, lt)) (inr (other, gt)) = omega arith

-- what holds of those before an entry and of those behind it
pub order_behind : (before : List Act) (a : Act) (behind : List Act) → AreInOrder (before ++ a ∷ behind) → Each (ComesBefore a) behind
order_behind [] a behind o = Each-from_all (ComesBefore a) behind o.0
order_behind (b ∷ before) a behind o = order_behind before a behind o.1

-- an entry that comes before another in the order is among those before it
pub among_before : (before : List Act) (a : Act) (behind : List Act) (b : Act) → AreInOrder (before ++ a ∷ behind) → Contains (before ++ a ∷ behind) b →
    ComesBefore b a → Contains before b
among_before [] a behind b o (zero, lt, is) c = let itself : ComesBefore b b = subst (ComesBefore b) is c in absurd (never_both b b itself itself)
among_before [] a behind b o (suc k, lt, is) c =
    absurd (never_both b a c (Each-contains (ComesBefore a) behind b (order_behind [] a behind o) (k, omega arith, is)))
among_before (d ∷ before) a behind b o (zero, lt, is) c = (0, omega arith, is)
among_before (d ∷ before) a behind b o (suc k, lt, is) c = later d before b (among_before before a behind b o.1 (k, omega arith, is) c)

-- ---- a list of entries that is split at one

-- each of the entries, without its place
pub each_act : (P : Act → Type 0) (ps : List Placed) → Each (λ (p : Placed). P p.act) ps → Each P (acts_in ps)
each_act P [] h = tt
each_act P (p ∷ ps) h = (h.0, each_act P ps h.1)

module _ (ps before : List Placed) (stop : Placed) (behind : List Placed) (split : ps ≡ before ++ stop ∷ behind) where
  acts_split : acts_in ps ≡ acts_in before ++ stop.act ∷ acts_in behind
  acts_split = ap acts_in split ∙ map-append (λ (p : Placed). p.act) before (stop ∷ behind)

  seam : (qs : List Placed) (p : Placed) (rs : List Placed) → Contains (qs ++ p ∷ rs) p
  seam [] p rs = (0, omega arith, refl)
  seam (q ∷ qs) p rs = later q (qs ++ p ∷ rs) p (seam qs p rs)

  -- what holds of each holds there
  pub at_stop : (P : Placed → Type 0) → All P ps → P stop
  at_stop P h = Each-contains P ps stop (Each-from_all P ps h) (subst (λ qs. Contains qs stop) (sym split) (seam before stop behind))

  -- an entry of the histories that comes before it is among those before it, of each of which this holds
  pub before_stop : (hs : List History) → IsWovenOrder hs (acts_in ps) → (P : Act → Type 0) → All (λ (p : Placed). P p.act) before →
      (x : Id) (place : ℕ) (e : CellEntry) → StandsAt hs x place e → ComesBefore (act x e) stop.act → P (act x e)
  before_stop hs o P h x place e s c =
      Each-contains P (acts_in before) (act x e) (each_act P before (Each-from_all (λ (p : Placed). P p.act) before h))
      (among_before (acts_in before) stop.act (acts_in behind) (act x e) (subst AreInOrder acts_split o.in_order)
      (subst (λ acts. Contains acts (act x e)) acts_split (placed_in_order hs (acts_in ps) o x place e s)) c)
