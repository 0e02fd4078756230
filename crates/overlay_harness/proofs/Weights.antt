-- What envelopes weigh together, in histories and in the record that is woven from them.
use Rattle.std.proofs.Common.{◌≡◌, ◌≤◌, inl, inr, ℕ, ◌+◌, ◌==◌, not, ◌||◌, Bool, true, false, if◌then◌else◌, List, [], ◌∷◌, refl, sym, subst, ap, ◌∙◌, arith}
use Rattle.std.specs.List.{flat_map, sum_by}
use Rattle.std.proofs.lemmas.Bool.{cond-true, cond-false, cases_Bool, and_parts}
use Rattle.std.proofs.lemmas.Bool.Decides.{Decides-eqb}
use Rattle.std.proofs.lemmas.List.Concat.{flat_map-cons}
use Rattle.std.proofs.lemmas.List.Sums.{sum_by-cons, sum_by-append}
use Rattle.ring_math.specs.Names.{Id}
use Rattle.ring_math.specs.Sides.{is_in}
use Rattle.wire_msg.specs.Words.{Envelope}
use Rattle.overlay_rules.specs.Record.{all_differ}
use Rattle.overlay_rules.proofs.Each.{Each, Each-from_all}
use Rattle.weave_laws.specs.Cells.{CellEntry, History, nodes_of}
use Rattle.weave_laws.specs.Woven.{Act, part, IsWovenOrder}
use Rattle.weave_laws.proofs.Interleaved.{part-there}
use Rattle.node_cell.specs.Sent.{sent_by}
use Rattle.overlay_harness.specs.Ran.{all_sent}

-- the weight of lists put together is that of each, added
pub weight_of_all : {A B : Type 0} (f : B → ℕ) (g : A → List B) (xs : List A) → sum_by f (flat_map g xs) ≡ sum_by (λ x. sum_by f (g x)) xs
weight_of_all f g [] = refl
weight_of_all f g (x ∷ xs) =
    ap (sum_by f) (flat_map-cons g x xs)
    ∙ sum_by-append f (g x) (flat_map g xs)
    ∙ ap (λ n. sum_by f (g x) + n) (weight_of_all f g xs)
    ∙ sym (sum_by-cons (λ y. sum_by f (g y)) x xs)

module _ (f : Envelope → ℕ) where
  abbrev weight : CellEntry → ℕ
  weight e = sum_by f e.sent

  -- what entries of a node sent
  abbrev at_node : List Act → Id → ℕ
  at_node acts x = sum_by weight (part x acts)

  abbrev over : (Id → ℕ) → List Id → ℕ
  over F [] = 0
  over F (x ∷ xs) = F x + over F xs

  abbrev only_at : Id → ℕ → Id → ℕ
  only_at y n x = if y == x then n else 0

  none_there : (y : Id) (n : ℕ) (xs : List Id) → is_in xs y ≡ false → over (only_at y n) xs ≡ 0
  none_there y n [] e = refl
  none_there y n (x ∷ xs) e =
      elim (cases_Bool (x == y)) [
        | inl t ↦ absurd (let whole : is_in (x ∷ xs) y ≡ true = ap (λ b. b || is_in xs y) t in cc)
        | inr t ↦
            let behind : is_in (x ∷ xs) y ≡ is_in xs y = ap (λ b. b || is_in xs y) t in
            let here : only_at y n x ≡ 0 = cond-false {A = ℕ} (y == x) n 0 (other y x t) in
            let rest = none_there y n xs (sym behind ∙ e) in
            omega arith
      ] where
        other : (y x : Id) → x == y ≡ false → y == x ≡ false
        other y x t = grind (arith, Decides-eqb x y, Decides-eqb y x)

  once : (y : Id) (n : ℕ) (xs : List Id) → all_differ xs ≡ true → over (only_at y n) xs ≤ n
  once y n [] d = omega arith
  once y n (x ∷ xs) d =
      let apart = and_parts (not (is_in xs x)) (all_differ xs) d in
      elim (cases_Bool (y == x)) [
        | inl t ↦
            let here : only_at y n x ≡ n = cond-true {A = ℕ} (y == x) n 0 t in
            let same : y ≡ x = (Decides-eqb y x).0 t in
            let rest = none_there y n xs (subst (λ z. is_in xs z ≡ false) (sym same) (negated (is_in xs x) apart.0)) in
            omega arith
        | inr t ↦
            let here : only_at y n x ≡ 0 = cond-false {A = ℕ} (y == x) n 0 t in
            let rest = once y n xs apart.1 in
            omega arith
      ] where
        negated : (b : Bool) → not b ≡ true → b ≡ false
        negated true e = cc
        negated false e = refl

  -- an entry more counts at its own node
  one_more : (a : Act) (acts : List Act) (x : Id) → at_node (a ∷ acts) x ≡ only_at a.node (weight a.entry) x + at_node acts x
  one_more a acts x =
      elim (cases_Bool (a.node == x)) [
        | inl t ↦
            ap (sum_by weight) (own t)
            ∙ sum_by-cons weight a.entry (part x acts)
            ∙ ap (λ n. n + at_node acts x) (sym (cond-true {A = ℕ} (a.node == x) (weight a.entry) 0 t))
        | inr t ↦
            let here : only_at a.node (weight a.entry) x ≡ 0 = cond-false {A = ℕ} (a.node == x) (weight a.entry) 0 t in
            let rest : at_node (a ∷ acts) x ≡ at_node acts x = ap (sum_by weight) (part-there x a acts t) in
            omega arith
      ] where
        own : a.node == x ≡ true → part x (a ∷ acts) ≡ a.entry ∷ part x acts
        own t = cond-true (a.node == x) _ _ t

  over_more : (a : Act) (acts : List Act) (xs : List Id) →
      over (at_node (a ∷ acts)) xs ≡ over (only_at a.node (weight a.entry)) xs + over (at_node acts) xs
  over_more a acts [] = refl
  over_more a acts (x ∷ xs) =
      let here = one_more a acts x in
      let rest = over_more a acts xs in
      omega arith

  over_none : (xs : List Id) → over (at_node []) xs ≡ 0
  over_none [] = refl
  over_none (x ∷ xs) = let rest = over_none xs in omega arith

  parts_weigh : (acts : List Act) (xs : List Id) → all_differ xs ≡ true → over (at_node acts) xs ≤ sum_by (λ (a : Act). weight a.entry) acts
  parts_weigh [] xs d = let none = over_none xs in omega arith
  parts_weigh (a ∷ acts) xs d =
      let more = over_more a acts xs in
      let one = once a.node (weight a.entry) xs d in
      let rest = parts_weigh acts xs d in
      let whole = sum_by-cons (λ (b : Act). weight b.entry) a acts in
      omega arith

  histories_weigh : (hs : List History) (acts : List Act) → Each (λ (h : History). part h.node acts ≡ h.entries) hs →
      sum_by f (all_sent hs) ≡ over (at_node acts) (nodes_of hs)
  histories_weigh [] acts w = refl
  histories_weigh (h ∷ hs) acts w =
      ap (sum_by f) (flat_map-cons (λ (k : History). sent_by k.entries) h hs)
      ∙ sum_by-append f (sent_by h.entries) (all_sent hs)
      ∙ ap (λ n. n + sum_by f (all_sent hs)) (weight_of_all f (λ (e : CellEntry). e.sent) h.entries ∙ ap (sum_by weight) (sym w.0))
      ∙ ap (λ n. at_node acts h.node + n) (histories_weigh hs acts w.1)

  -- what histories of different nodes sent weighs no more than what their entries in the woven order sent
  pub sent_weigh : (hs : List History) (acts : List Act) → all_differ (nodes_of hs) ≡ true → IsWovenOrder hs acts →
      sum_by f (all_sent hs) ≤ sum_by f (flat_map (λ (a : Act). a.entry.sent) acts)
  sent_weigh hs acts d o =
      let left = histories_weigh hs acts (Each-from_all (λ (h : History). part h.node acts ≡ h.entries) hs o.whole) in
      let between = parts_weigh acts (nodes_of hs) d in
      let right = weight_of_all f (λ (a : Act). a.entry.sent) acts in
      omega arith
