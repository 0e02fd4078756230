-- The map that finds the place of an identifier.
use Rattle.std.proofs.Common.{◌≡◌, ◌≢◌, ◌<◌, ◌==◌, ℕ, zero, suc, ◌+◌, Bool, true, false, cond, not, ◌&&◌, ◌||◌, Some, List, [], ◌∷◌, length, get_or}
use Rattle.std.proofs.Common.{slice_index, refl, sym, ap, ◌∙◌, arith}
use Rattle.std.specs.Ordering.{nat_cmp}
use Rattle.std.specs.Cmp.{unsigned_tied}
use Rattle.std.specs.BTreeMap.{BTreeMap, get, is_at}
use Rattle.std.proofs.lemmas.Bool.Decides.{Decides-eqb}
use Rattle.ring_math.specs.Sides.{is_in}
use Rattle.overlay_rules.specs.Record.{all_differ}
use Rattle.node_parts.specs.declared.node.Node.{Node}
use Rattle.world_model.specs.Cells.{ids_of, id_at, AreDifferent, Finds}
use Rattle.world_model.proofs.OneNode.{ids-length, id-read}

by_test : {P : Type 0} (b : Bool) → (b ≡ true → P) → (b ≡ false → P) → P
by_test true f g = f refl
by_test false f g = g refl

-- ---- lists of different numbers

not_read : (xs : List ℕ) (x k : ℕ) → not (is_in xs x) ≡ true → k < length xs → slice_index xs k ≢ x
not_read [] x k h l = absurd (omega arith)
not_read (y ∷ ys) x zero h l = λ e. let t : y == x ≡ true = (Decides-eqb y x).1 e in let f : not true ≡ true = rw t at h in absurd (cc)
not_read (y ∷ ys) x (suc k) h l = not_read ys x k (rest (y == x) (is_in ys x) h) (omega arith) where
  rest : (a b : Bool) → not (a || b) ≡ true → not b ≡ true
  rest true b h = cc
  rest false b h = h

and_left : (a b : Bool) → a && b ≡ true → a ≡ true
and_left true b h = refl
and_left false b h = cc

and_right : (a b : Bool) → a && b ≡ true → b ≡ true
and_right true b h = h
and_right false b h = cc

-- an earlier one is another
pub all_differ-read : (xs : List ℕ) (j k : ℕ) → all_differ xs ≡ true → j < k → k < length xs → slice_index xs k ≢ slice_index xs j
all_differ-read [] j k h a b = absurd (omega arith)
all_differ-read (x ∷ xs) zero zero h a b = absurd (omega arith)
all_differ-read (x ∷ xs) (suc j) zero h a b = absurd (omega arith)
all_differ-read (x ∷ xs) zero (suc k) h a b = not_read xs x k (and_left (not (is_in xs x)) (all_differ xs) h) (omega arith)
all_differ-read (x ∷ xs) (suc j) (suc k) h a b = all_differ-read xs j k (and_right (not (is_in xs x)) (all_differ xs) h) (omega arith) (omega arith)

-- ---- the map

-- the places of the first identifiers
pub record FindsTo (places : BTreeMap ℕ ℕ) (ids : List ℕ) (n : ℕ) : Type 0 where
  pub at : (k : ℕ) → k < n → get nat_cmp places (slice_index ids k) ≡ Some k
  pub only : (x k : ℕ) → get nat_cmp places x ≡ Some k → (k < n) × (slice_index ids k ≡ x)

pub FindsTo-more : (m m' : BTreeMap ℕ ℕ) (ids : List ℕ) (n : ℕ) → all_differ ids ≡ true → n < length ids → FindsTo m ids n →
    ((q : ℕ) → get nat_cmp m' q ≡ cond (is_at (nat_cmp (slice_index ids n)) q) (Some n) (get nat_cmp m q)) → FindsTo m' ids (n + 1)
FindsTo-more m m' ids n d l f u = record {
  at = λ k h.
      let x = slice_index ids n in
      let y = slice_index ids k in
      u y ∙ ap (λ b. cond b (Some n) (get nat_cmp m y)) (unsigned_tied x y) ∙
      by_test {P = cond (x == y) (Some n) (get nat_cmp m y) ≡ Some k} (x == y)
      (λ t. let e : x ≡ y = (Decides-eqb x y).0 t in rw t (ap Some (same k h e)))
      (λ t. let ne : k < n = lower k h t in rw t (f.at k ne));
  only = λ y k e.
      let x = slice_index ids n in
      let found : cond (x == y) (Some n) (get nat_cmp m y) ≡ Some k =
      sym (u y ∙ ap (λ b. cond b (Some n) (get nat_cmp m y)) (unsigned_tied x y)) ∙ e in
      by_test {P = (k < n + 1) × (slice_index ids k ≡ y)} (x == y)
      (λ t. let last : Some n ≡ Some k = sym (ap (λ b. cond b (Some n) (get nat_cmp m y)) t) ∙ found in
      let is : n ≡ k = cc in (omega arith, ap (slice_index ids) (sym is) ∙ (Decides-eqb x y).0 t))
      (λ t. let before = f.only y k (sym (ap (λ b. cond b (Some n) (get nat_cmp m y)) t) ∙ found) in (omega (arith, before.0), before.1));
} where
  same : (k : ℕ) → k < n + 1 → slice_index ids n ≡ slice_index ids k → n ≡ k
  same k h e = by_test {P = n ≡ k} (n == k) (λ t. (Decides-eqb n k).0 t)
      (λ t. let ne : n ≢ k = λ q. let f : n == k ≡ true = (Decides-eqb n k).1 q in cc in absurd (all_differ-read ids k n d (omega arith) l e))

  lower : (k : ℕ) → k < n + 1 → slice_index ids n == slice_index ids k ≡ false → k < n
  lower k h t = by_test {P = k < n} (k == n)
      (λ q. let e : k ≡ n = (Decides-eqb k n).0 q in
      let g : slice_index ids n == slice_index ids k ≡ true =
      (Decides-eqb (slice_index ids n) (slice_index ids k)).1 (ap (slice_index ids) (sym e)) in absurd (cc))
      (λ q. let ne : k ≢ n = λ e. let f : k == n ≡ true = (Decides-eqb k n).1 e in cc in omega arith)

-- no two places have one identifier
pub Finds-different : (places : BTreeMap ℕ ℕ) (nodes : List Node) → Finds places (ids_of nodes) → AreDifferent nodes
Finds-different places nodes f = record {
  each = λ j k d lj lk e.
      let long = ids-length nodes in
      let same : id_at nodes j ≡ id_at nodes k = id-read nodes j d lj ∙ e ∙ sym (id-read nodes k d lk) in
      let one : Some j ≡ Some k = sym (f.at j (omega arith)) ∙ ap (get nat_cmp places) same ∙ f.at k (omega arith) in
      cc;
}

-- the place of an identifier that is there
pub index-or : (xs : List ℕ) (k d : ℕ) → k < length xs → get_or xs k d ≡ slice_index xs k
index-or [] k d l = absurd (omega arith)
index-or (x ∷ xs) zero d l = refl
index-or (x ∷ xs) (suc k) d l = index-or xs k d (omega arith)
