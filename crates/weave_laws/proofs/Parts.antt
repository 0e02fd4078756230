-- The part of each node in the woven order is its history, and each entry stands in its node's history.
use Rattle.std.proofs.Common.{◌≡◌, ◌⊎◌, inl, inr, zero, suc, ◌==◌, true, false, List, [], ◌∷◌, Contains, refl, sym, subst}
use Rattle.std.proofs.Common.{◌∙◌, arith}
use Rattle.std.proofs.lemmas.Bool.{cases_Bool}
use Rattle.std.proofs.lemmas.Bool.Decides.{Decides-eqb}
use Rattle.ring_math.specs.Names.{Id}
use Rattle.overlay_rules.proofs.Each.{Each, Each-contains, Each-itself, Each-weaker, Each-from_all}
use Rattle.weave_laws.specs.Cells.{CellEntry, History, nodes_of}
use Rattle.weave_laws.specs.Woven.{Act, part, IsWovenOrder}
use Rattle.weave_laws.proofs.Interleaved.{part-here, part-there}

later : {A : Type 0} (y : A) (xs : List A) (x : A) → Contains xs x → Contains (y ∷ xs) x
later y xs x (k, lt, e) = (suc k, omega arith, e)

-- a node has no entry, or it is the node of one
part_cases : (x : Id) (acts : List Act) → (part x acts ≡ []) ⊎ ((a : Act) × Contains acts a × (a.node ≡ x))
part_cases x [] = inl refl
part_cases x (a ∷ acts) = by_node (cases_Bool (a.node == x)) (part_cases x acts) where
  by_node : (a.node == x ≡ true) ⊎ (a.node == x ≡ false) → (part x acts ≡ []) ⊎ ((b : Act) × Contains acts b × (b.node ≡ x)) →
      (part x (a ∷ acts) ≡ []) ⊎ ((b : Act) × Contains (a ∷ acts) b × (b.node ≡ x))
  by_node (inl e) rest = inr (a, (0, omega arith, refl), (Decides-eqb a.node x).0 e)
  by_node (inr e) (inl none) = inl (part-there x a acts e ∙ none)
  by_node (inr e) (inr (b, c, is)) = inr (b, later a acts b c, is)

-- what holds of each part holds of each entry
parts_each : (P : Id → CellEntry → Type 0) (acts : List Act) → ((x : Id) → Each (P x) (part x acts)) → Each (λ (a : Act). P a.node a.entry) acts
parts_each P [] h = tt
parts_each P (a ∷ acts) h =
    ((subst (Each (P a.node)) (part-here a acts) (h a.node)).0, parts_each P acts (λ x. rest x (cases_Bool (a.node == x)))) where
      rest : (x : Id) → (a.node == x ≡ true) ⊎ (a.node == x ≡ false) → Each (P x) (part x acts)
      rest x (inl e) = subst (λ y. Each (P y) (part y acts)) ((Decides-eqb a.node x).0 e) (subst (Each (P a.node)) (part-here a acts) (h a.node)).1
      rest x (inr e) = subst (Each (P x)) (part-there x a acts e) (h x)

-- a node of the histories has one
with_node : (hs : List History) (x : Id) → Contains (nodes_of hs) x → (h : History) × Contains hs h × (h.node ≡ x)
with_node [] x (k, lt, e) = absurd (omega arith)
with_node (h ∷ hs) x (zero, lt, e) = (h, (0, omega arith, refl), e)
with_node (h ∷ hs) x (suc k, lt, e) = let rest = with_node hs x (k, omega arith, e) in (rest.0, later h hs rest.0 rest.1, rest.2)

-- the history of node x, which is its part
pub record IsPart (hs : List History) (acts : List Act) (x : Id) : Type 0 where
  pub history : History
  pub among : Contains hs history
  pub node : history.node ≡ x
  pub is : part x acts ≡ history.entries

pub part_of : (hs : List History) (acts : List Act) → IsWovenOrder hs acts → (a : Act) → Contains acts a → IsPart hs acts a.node
part_of hs acts o a c =
    let nodes = Each-from_all (λ (b : Act). Contains (nodes_of hs) b.node) acts o.theirs in
    let found = with_node hs a.node (Each-contains (λ (b : Act). Contains (nodes_of hs) b.node) acts a nodes c) in
    let wholes = Each-from_all (λ (h : History). part h.node acts ≡ h.entries) hs o.whole in
    record {
      history = found.0;
      among = found.1;
      node = found.2;
      is = subst (λ x. part x acts ≡ found.0.entries) found.2 (Each-contains (λ (h : History). part h.node acts ≡ h.entries) hs found.0 wholes found.1);
    }

-- a node has no entry, or its part is its history
pub part_is : (hs : List History) (acts : List Act) → IsWovenOrder hs acts → (x : Id) → (part x acts ≡ []) ⊎ IsPart hs acts x
part_is hs acts o x =
    elim (part_cases x acts) [
      | inl none ↦ inl none
      | inr (a, c, is) ↦ inr (subst (IsPart hs acts) is (part_of hs acts o a c))
    ]

-- the history in which an entry stands
pub record StandsIn (hs : List History) (x : Id) (e : CellEntry) : Type 0 where
  pub history : History
  pub among : Contains hs history
  pub node : history.node ≡ x
  pub stands : Contains history.entries e

pub stand_in : (hs : List History) (acts : List Act) → IsWovenOrder hs acts → Each (λ (a : Act). StandsIn hs a.node a.entry) acts
stand_in hs acts o = parts_each (StandsIn hs) acts at where
  at : (x : Id) → Each (StandsIn hs x) (part x acts)
  at x =
      elim (part_is hs acts o x) [
        | inl none ↦ subst (Each (StandsIn hs x)) (sym none) tt
        | inr p ↦ subst (Each (StandsIn hs x)) (sym p.is)
            (Each-weaker (Contains p.history.entries) (StandsIn hs x) p.history.entries
            (λ e c. record { history = p.history; among = p.among; node = p.node; stands = c }) (Each-itself p.history.entries))
      ]

-- what holds of each entry of each history holds of each entry in the woven order
pub of_entries : (P : CellEntry → Type 0) (hs : List History) (acts : List Act) → IsWovenOrder hs acts → ((h : History) → Contains hs h → Each P h.entries) →
    Each (λ (a : Act). P a.entry) acts
of_entries P hs acts o h =
    Each-weaker (λ (a : Act). StandsIn hs a.node a.entry) (λ (a : Act). P a.entry) acts
    (λ a s. Each-contains P s.history.entries a.entry (h s.history s.among) s.stands) (stand_in hs acts o)
