-- What holds of histories in one order holds of them in another.
use Rattle.std.proofs.Common.{◌≡◌, ◌≤◌, ◌⊎◌, inl, inr, ℕ, ◌==◌, ◌||◌, not, Bool, true, false, cond, List, [], ◌∷◌}
use Rattle.std.proofs.Common.{IsPermutation, sum_by, refl, subst, arith}
use Rattle.std.proofs.lemmas.Bool.{cond-true, cond-false, cases_Bool, and_parts}
use Rattle.std.proofs.lemmas.Bool.Decides.{Decides-eqb}
use Rattle.std.proofs.lemmas.List.Sums.{sum_by-cons}
use Rattle.std.proofs.lemmas.List.Sorted.{sum_by-IsPermutation, Contains-permutation, All-permutation, IsPermutation-map}
use Rattle.ring_math.specs.Names.{Id}
use Rattle.ring_math.specs.Sides.{is_in}
use Rattle.overlay_rules.specs.Record.{all_differ}
use Rattle.weave_laws.specs.Cells.{History, nodes_of}
use Rattle.weave_laws.specs.Woven.{Act, IsWovenOrder, part}
use Rattle.weave.specs.Placed.{AreEntriesOf, IsEntryIn, Placed}

-- ---- identifiers that differ: none stands among them twice

is_at : Id → Id → ℕ
is_at x y = cond (y == x) 1 0

at_cases : (x y : Id) → ((y ≡ x) × (is_at x y ≡ 1)) ⊎ ((y == x ≡ false) × (is_at x y ≡ 0))
unfolding is_at
at_cases x y =
    elim (cases_Bool (y == x)) [
      | inl t ↦ inl ((Decides-eqb y x).0 t, cond-true {A = ℕ} (y == x) 1 0 t)
      | inr t ↦ inr (t, cond-false {A = ℕ} (y == x) 1 0 t)
    ]

neither : (b c : Bool) → b || c ≡ false → c ≡ false
neither true c e = cc
neither false c e = e

one_of : (b c : Bool) → b ≡ false → b || c ≡ true → c ≡ true
one_of true c f e = cc
one_of false c f e = e

denied : (b : Bool) → not b ≡ true → b ≡ false
denied true e = cc
denied false e = refl

none_at : (x : Id) (ys : List Id) → is_in ys x ≡ false → sum_by (is_at x) ys ≡ 0
none_at x [] e = refl
none_at x (y ∷ ys) e =
    let whole = sum_by-cons (is_at x) y ys in
    let rest = none_at x ys (neither (y == x) (is_in ys x) e) in
    elim (at_cases x y) [
      | inl (is, one) ↦ absurd (let t : y == x ≡ true = (Decides-eqb y x).1 is in cc)
      | inr (other, none) ↦ omega arith
    ]

some_at : (x : Id) (ys : List Id) → is_in ys x ≡ true → 1 ≤ sum_by (is_at x) ys
some_at x [] e = cc
some_at x (y ∷ ys) e =
    let whole = sum_by-cons (is_at x) y ys in
    elim (at_cases x y) [
      | inl (is, one) ↦ omega arith
      | inr (other, none) ↦ let rest = some_at x ys (one_of (y == x) (is_in ys x) other e) in omega arith
    ]

once_at : (x : Id) (ys : List Id) → all_differ ys ≡ true → sum_by (is_at x) ys ≤ 1
once_at x [] d = omega arith
once_at x (y ∷ ys) d =
    let apart = and_parts (not (is_in ys y)) (all_differ ys) d in
    let whole = sum_by-cons (is_at x) y ys in
    elim (at_cases x y) [
      | inl (is, one) ↦
          let others : sum_by (is_at x) ys ≡ 0 = subst (λ z. sum_by (is_at z) ys ≡ 0) is (none_at y ys (denied (is_in ys y) apart.0)) in
          omega arith
      | inr (other, none) ↦ let rest = once_at x ys apart.1 in omega arith
    ]

differ_if_once : (ys : List Id) → ((x : Id) → sum_by (is_at x) ys ≤ 1) → all_differ ys ≡ true
differ_if_once [] h = refl
differ_if_once (y ∷ ys) h =
    let rest : all_differ ys ≡ true = differ_if_once ys (λ x. let whole = sum_by-cons (is_at x) y ys in let most = h x in omega arith) in
    let alone : is_in ys y ≡ false =
    elim (cases_Bool (is_in ys y)) [
      | inl t ↦
          let more = some_at y ys t in
          let whole = sum_by-cons (is_at y) y ys in
          let most = h y in
          elim (at_cases y y) [
            | inl (is, one) ↦ absurd (omega arith)
            | inr (other, none) ↦ absurd (let same : y == y ≡ true = (Decides-eqb y y).1 refl in cc)
          ]
      | inr t ↦ t
    ] in
    cc

pub differ-permuted : (xs ys : List Id) → IsPermutation xs ys → all_differ xs ≡ true → all_differ ys ≡ true
differ-permuted xs ys p d =
    differ_if_once ys (λ x. let same = sum_by-IsPermutation (is_at x) xs ys p in let most = once_at x xs d in omega arith)

-- ---- the woven order of the ones is that of the others

pub order-permuted : (ks hs : List History) (acts : List Act) → IsPermutation ks hs → IsWovenOrder ks acts → IsWovenOrder hs acts
order-permuted ks hs acts p o = record {
  whole = All-permutation (λ (h : History). part h.node acts ≡ h.entries) ks hs p o.whole;
  theirs = λ k d lt. Contains-permutation (nodes_of ks) (nodes_of hs) _ (IsPermutation-map (λ (h : History). h.node) ks hs p) (o.theirs k d lt);
  in_order = o.in_order;
}

pub entries-permuted : (ks hs : List History) (ps : List Placed) → IsPermutation ks hs → AreEntriesOf ks ps → AreEntriesOf hs ps
entries-permuted ks hs ps p es = λ k d lt. moved (es k d lt) where
  moved : {q : Placed} → IsEntryIn ks q → IsEntryIn hs q
  moved e = record {
    stands = record {
      history = e.stands.history;
      among = Contains-permutation ks hs e.stands.history p e.stands.among;
      node = e.stands.node;
      there = e.stands.there;
    };
    stamped = e.stamped;
  }
