-- Knowledge after one more identifier was learnt, and after the next of a list.
use Rattle.std.proofs.Common.{◌≡◌, ◌<◌, ℕ, ◌+◌, Bool, true, false, cond, ◌||◌, ◌==◌, List, [], ◌∷◌, ◌++◌, length, take}
use Rattle.std.proofs.Common.{get_or, refl, ap, ◌∙◌, sym, subst, arith}
use Rattle.std.proofs.lemmas.List.{take_more, length-append}
use Rattle.ring_math.specs.Sides.{is_in, learn, learn_all}
use Rattle.leaf_set.specs.Leaves.{Leaves, StandsFor as LeafSetStandsFor}
use Rattle.leaf_set.proofs.Learning.{learn-known}
use Rattle.route_table.specs.Entries.{Table, StandsFor as TableStandsFor}
use Rattle.lookup_core.specs.Kept.{Kept, StandsFor}

pub learn_all-more : (me : ℕ) (known xs : List ℕ) (y : ℕ) → learn_all me known (xs ++ y ∷ []) ≡ learn me (learn_all me known xs) y
learn_all-more me known [] y = refl
learn_all-more me known (x ∷ xs) y = learn_all-more me (learn me known x) xs y

-- the next of a list
pub learn_all-next : (me : ℕ) (known xs : List ℕ) (i y : ℕ) → i < length xs → y ≡ get_or xs i y →
    learn me (learn_all me known (take i xs)) y ≡ learn_all me known (take (i + 1) xs)
learn_all-next me known xs i y lt read =
    let more : take (i + 1) xs ≡ take i xs ++ y ∷ [] = take_more xs i y lt ∙ ap (λ w. take i xs ++ w ∷ []) (sym read) in
    sym (ap (learn_all me known) more ∙ learn_all-more me known (take i xs) y)

-- ---- who was learnt is learnt a second time without any effect

is_in-longer : (known : List ℕ) (x y : ℕ) → is_in known y ≡ true → is_in (known ++ x ∷ []) y ≡ true
is_in-longer [] x y e = cc
is_in-longer (z ∷ zs) x y e = by (z == y) (is_in zs y) e (is_in-longer zs x y) where
  by : (a b : Bool) → a || b ≡ true → (b ≡ true → is_in (zs ++ x ∷ []) y ≡ true) → a || is_in (zs ++ x ∷ []) y ≡ true
  by true b p rest = refl
  by false b p rest = rest p

is_learnt : (me : ℕ) (known : List ℕ) (y : ℕ) → learn me known y ≡ known → (y == me) || is_in known y ≡ true
is_learnt me known y e = by ((y == me) || is_in known y) e where
  by : (b : Bool) → cond b known (known ++ y ∷ []) ≡ known → b ≡ true
  by true p = refl
  by false p = absurd (omega (arith, length-append known (y ∷ []), ap length p))

is_learnt-longer : (me : ℕ) (known : List ℕ) (y x : ℕ) → (y == me) || is_in known y ≡ true → (y == me) || is_in (known ++ x ∷ []) y ≡ true
is_learnt-longer me known y x e = by (y == me) (is_in known y) e (is_in-longer known x y) where
  by : (a b : Bool) → a || b ≡ true → (b ≡ true → is_in (known ++ x ∷ []) y ≡ true) → a || is_in (known ++ x ∷ []) y ≡ true
  by true b p longer = refl
  by false b p longer = longer p

learnt-since : (me : ℕ) (known : List ℕ) (y x : ℕ) → learn me known y ≡ known → learn me (learn me known x) y ≡ learn me known x
learnt-since me known y x e = by ((x == me) || is_in known x) where
  by : (b : Bool) → learn me (cond b known (known ++ x ∷ [])) y ≡ cond b known (known ++ x ∷ [])
  by true = e
  by false = learn-known me (known ++ x ∷ []) y (is_learnt-longer me known y x (is_learnt me known y e))

-- whoever was learnt since
pub learnt-still : (me : ℕ) (known xs : List ℕ) (y : ℕ) → learn me known y ≡ known → learn me (learn_all me known xs) y ≡ learn_all me known xs
learnt-still me known [] y e = e
learnt-still me known (x ∷ xs) y e = learnt-still me (learn me known x) xs y (learnt-since me known y x e)

-- both parts have learnt
pub stands-both : (k : Kept) (leafs : Leaves) (table : Table) (known : List ℕ) (y : ℕ) → StandsFor k known → leafs.me ≡ k.leafs.me → table.me ≡ k.table.me →
    LeafSetStandsFor leafs (learn k.leafs.me known y) → TableStandsFor table (learn k.table.me known y) →
    StandsFor (record { leafs = leafs; table = table }) (learn k.leafs.me known y)
stands-both k leafs table known y st same_leafs same_table new_leafs new_table = record {
  me = same_table ∙ st.me ∙ sym same_leafs;
  leafs = new_leafs;
  table = subst (λ m. TableStandsFor table (learn m known y)) st.me new_table;
}
