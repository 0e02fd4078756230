-- What is new among the first of a list, one more at a time.
use Rattle.std.proofs.Common.{◌≡◌, ℕ, ◌+◌, ◌<◌, Bool, true, false, not, ◌&&◌, ◌||◌, ◌==◌, if◌then◌else◌, List, [], ◌∷◌, length, take}
use Rattle.std.proofs.Common.{get_or, refl, sym, ap, ◌∙◌, subst}
use Rattle.std.specs.Prelude.{is_none}
use Rattle.std.specs.List.{list_any}
use Rattle.std.proofs.lemmas.List.Folds.{list_any_more, list_any_at}
use Rattle.std.proofs.lemmas.Bool.{and_parts, and_right}
use Rattle.ring_math.specs.Ring.{shared_of, digit_of}
use Rattle.ring_math.specs.Sides.{is_some_at, learn, learn_all}
use Rattle.leaf_set.specs.Leaves.{StandsFor as LeafSetStandsFor}
use Rattle.leaf_set.specs.Range.{lacks}
use Rattle.leaf_set.proofs.Learning.{stands-known}
use Rattle.route_table.specs.declared.Standing.{Standing}
use Rattle.route_table.specs.declared.Standing.TheVariants as standing
use Rattle.route_table.specs.Entries.{Table, entry_in, is_held, is_new, standing_of, StandsFor as TableStandsFor}
use Rattle.route_table.proofs.Learning.{is-some}
use Rattle.lookup_core.proofs.Learning.{learnt-still}
use Rattle.lookup_core.specs.Kept.{Kept, StandsFor, is_new_leaf, news_of}
use Rattle.lookup_core.specs.declared.knowledge.News.{News}
use Rattle.lookup_core.specs.declared.knowledge.News.TheVariants.{Nothing, Entry, Leaf}

-- what news there are, with a new leaf and with a new entry
abbrev news_by : Bool → Bool → News
news_by leaf entry = if leaf then Leaf else (if entry then Entry else Nothing)

-- whether it is a new leaf, and whether a new entry
pub record IsNews (a b : Bool) (k : Kept) (y : ℕ) : Type 0 where
  pub leaf : is_new_leaf k y ≡ a
  pub entry : is_new k.table y ≡ b

pub new-leaf : (k : Kept) (y : ℕ) → Leaf ≡ news_of k (y ∷ []) → is_new_leaf k y ≡ true
new-leaf k y e = by (is_new_leaf k y) (is_new k.table y) e where
  by : (a b : Bool) → Leaf ≡ news_by (a || false) (b || false) → a ≡ true
  by true b e = refl
  by false true e = cc
  by false false e = cc

pub new-entry : (k : Kept) (y : ℕ) → Entry ≡ news_of k (y ∷ []) → IsNews false true k y
new-entry k y e = by (is_new_leaf k y) (is_new k.table y) refl refl e where
  by : (a b : Bool) → is_new_leaf k y ≡ a → is_new k.table y ≡ b → Entry ≡ news_by (a || false) (b || false) → IsNews false true k y
  by true b p q e = cc
  by false true p q e = record { leaf = p; entry = q }
  by false false p q e = cc

pub no-news : (k : Kept) (y : ℕ) → Nothing ≡ news_of k (y ∷ []) → IsNews false false k y
no-news k y e = by (is_new_leaf k y) (is_new k.table y) refl refl e where
  by : (a b : Bool) → is_new_leaf k y ≡ a → is_new k.table y ≡ b → Nothing ≡ news_by (a || false) (b || false) → IsNews false false k y
  by true b p q e = cc
  by false true p q e = cc
  by false false p q e = record { leaf = p; entry = q }

-- whether one of the first is so, with one more
pub any-more : (p : ℕ → Bool) (ids : List ℕ) (i y : ℕ) (b c : Bool) → i < length ids → y ≡ get_or ids i y → list_any p (take i ids) ≡ b → p y ≡ c →
    list_any p (take (i + 1) ids) ≡ b || c
any-more p ids i y b c lt read before now =
    list_any_more p ids i y lt ∙ ap (λ t. t || p (get_or ids i y)) before ∙ ap (λ z. b || p z) (sym read) ∙ ap (λ t. b || t) now

pub leaf-told : (k : Kept) (ids : List ℕ) (i y : ℕ) → i < length ids → y ≡ get_or ids i y → is_new_leaf k y ≡ true → Leaf ≡ news_of k ids
leaf-told k ids i y lt read new =
    sym (ap (λ b. news_by b (list_any (is_new k.table) ids)) (list_any_at (is_new_leaf k) ids i y lt (ap (is_new_leaf k) (sym read) ∙ new)))

pub entry-kept : (b : Bool) (news : News) → news ≡ (if b then Entry else Nothing) → news ≡ (if b || false then Entry else Nothing)
entry-kept true news e = e
entry-kept false news e = e

pub entry-told : (b : Bool) → Entry ≡ (if b || true then Entry else Nothing)
entry-told true = refl
entry-told false = refl

-- ---- what one identifier changes, by its standing in the table and by whether it is lacked as a leaf

abbrev pub news_with : Standing → Bool → News
news_with standing.Entry lacked = Nothing
news_with standing.Free lacked = if lacked then Leaf else Entry
news_with standing.Elsewhere lacked = if lacked then Leaf else Nothing

held-old : (t : Table) (y : ℕ) → is_held t y ≡ true → is_new t y ≡ false
held-old t y held =
    let there = entry_in t (shared_of t.me y) (digit_of y (shared_of t.me y)) in
    and_right (not (y == t.me)) (is_none there) (is-some y there (and_parts (not (y == t.me)) (is_some_at y there) held).1)

pub one-news : (k : Kept) (y : ℕ) (s : Standing) (b : Bool) → s ≡ standing_of k.table y → b ≡ lacks k.leafs y → news_with s b ≡ news_of k (y ∷ [])
one-news k y s b e f = by (is_held k.table y) (is_new k.table y) (lacks k.leafs y) (held-old k.table y) e f where
  by : (h n l : Bool) → (h ≡ true → n ≡ false) → s ≡ (if h then standing.Entry else (if n then standing.Free else standing.Elsewhere)) → b ≡ l →
      news_with s b ≡ news_by ((not h && l) || false) (n || false)
  by true true l old e f = let never : true ≡ false = old refl in cc
  by true false l old e f = ap (λ t. news_with t b) e
  by false true true old e f = ap (λ t. news_with t b) e ∙ ap (news_with standing.Free) f
  by false true false old e f = ap (λ t. news_with t b) e ∙ ap (news_with standing.Free) f
  by false false true old e f = ap (λ t. news_with t b) e ∙ ap (news_with standing.Elsewhere) f
  by false false false old e f = ap (λ t. news_with t b) e ∙ ap (news_with standing.Elsewhere) f

-- the leaves stay when it is learnt behind others
abbrev pub LeafsStay : Kept → ℕ → Type 0
LeafsStay k y = (known ids : List ℕ) → StandsFor k known → LeafSetStandsFor k.leafs (learn_all k.leafs.me known ids) →
    LeafSetStandsFor k.leafs (learn k.leafs.me (learn_all k.leafs.me known ids) y)

-- the table stays when it is learnt
abbrev pub TableStays : Kept → ℕ → Type 0
TableStays k y = (known : List ℕ) → TableStandsFor k.table known → TableStandsFor k.table (learn k.table.me known y)

pub entry-stays : (k : Kept) (y : ℕ) → ((known : List ℕ) → TableStandsFor k.table known → learn k.table.me known y ≡ known) → LeafsStay k y
entry-stays k y learnt = λ known ids st there.
    subst (LeafSetStandsFor k.leafs) (sym (learnt-still k.leafs.me known ids y (subst (λ m. learn m known y ≡ known) st.me (learnt known st.table)))) there

pub leaf-stays : (k : Kept) (y : ℕ) → lacks k.leafs y ≡ false → LeafsStay k y
leaf-stays k y e = λ known ids st there. stands-known k.leafs (learn_all k.leafs.me known ids) y there e
