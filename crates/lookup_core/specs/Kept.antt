-- What a node's knowledge is seen as, and the lists that it stands for.
use Rattle.std.specs.Prelude.{◌≡◌, ◌<◌, ◌^◌, if◌then◌else◌, Option, Some, None, Bool, not, ◌&&◌, List, ◌∷◌, Contains}
use Rattle.std.specs.List.{list_any}
use Rattle.ring_math.specs.Names.{Id, Key}
use Rattle.ring_math.specs.Ring.{is_nearer}
use Rattle.ring_math.specs.Members.{InRing}
use Rattle.leaf_set.specs.Leaves.{Leaves, holds, in_order, StandsFor as LeafSetStandsFor}
use Rattle.leaf_set.specs.Range.{lacks}
use Rattle.route_table.specs.Entries.{Table, is_held, is_new, StandsFor as TableStandsFor}
use Rattle.lookup_core.specs.declared.knowledge.News.{News}
use Rattle.lookup_core.specs.declared.knowledge.News.TheVariants.{Nothing, Entry, Leaf}

pub record Kept : Type 0 where
  pub leafs : Leaves
  pub table : Table

-- its leaves and its table are those of the list, seen from one node
pub record StandsFor (k : Kept) (known : List Id) : Type 0 where
  pub me : k.table.me ≡ k.leafs.me
  pub leafs : LeafSetStandsFor k.leafs known
  pub table : TableStandsFor k.table known

-- the node, and then its leaves in leaf order
abbrev pub members_in : Leaves → List Id
members_in s = s.me ∷ in_order s

-- y was on neither side and now is on one
abbrev pub is_taken : Leaves → Leaves → Id → Bool
is_taken old new y = not (holds old y) && holds new y

-- y is no entry, and would be a leaf if it were learnt
abbrev pub is_new_leaf : Kept → Id → Bool
is_new_leaf k y = not (is_held k.table y) && lacks k.leafs y

-- what learning these would change first
abbrev pub news_of : Kept → List Id → News
news_of k ys = if list_any (is_new_leaf k) ys then Leaf else (if list_any (is_new k.table) ys then Entry else Nothing)

-- the node and those that it knows are identifiers, and it is not among them
pub record Others (me : Id) (known : List Id) : Type 0 where
  pub bound : me < 2 ^ 128
  pub in_ring : InRing (Contains known)
  pub others : Contains known me → ⊥

-- an identifier where it is nearer to the key than the node
abbrev pub if_nearer : Option Id → Id → Key → Option Id
if_nearer None me key = None
if_nearer (Some y) me key = if is_nearer y me key then Some y else None
