-- The nodes of a world stand for its states, and each is found by its identifier.
use Rattle.std.specs.Prelude.{◌≡◌, ◌<◌, ℕ, Some, List, [], ◌∷◌, length, slice_index, slice_index_or}
use Rattle.std.specs.Ordering.{nat_cmp}
use Rattle.ring_math.specs.Names.{Id}
use Rattle.std.specs.BTreeMap.{BTreeMap, get}
use Rattle.overlay_rules.specs.State.{State}
use Rattle.node_parts.specs.declared.node.Node.{Node}
use Rattle.node_parts.specs.declared.change.Change.{Change}
use Rattle.node_parts.specs.Fits.{Fits}
use Rattle.node_parts.specs.Seen.{Stands}

abbrev pub ids_of : List Node → List Id
ids_of [] = []
ids_of (n ∷ ns) = n.me ∷ ids_of ns

abbrev pub id_at : List Node → ℕ → Id
id_at nodes place = slice_index (ids_of nodes) place

-- each node stands for the state of its identifier
pub record AllStand (nodes : List Node) (states : Id → State) : Type 0 where
  pub each : (k : ℕ) (d : Node) → k < length nodes → Stands (slice_index_or nodes k d) (states (slice_index_or nodes k d).me)

-- the node at this place has room for the change
pub record FitsAt (nodes : List Node) (place : ℕ) (c : Change) : Type 0 where
  pub fits : (d : Node) → Fits (slice_index_or nodes place d) c

-- the map has the place of each identifier, and no others
pub record Finds (places : BTreeMap Id ℕ) (ids : List Id) : Type 0 where
  pub at : (k : ℕ) → k < length ids → get nat_cmp places (slice_index ids k) ≡ Some k
  pub only : (x : Id) (k : ℕ) → get nat_cmp places x ≡ Some k → (k < length ids) × (slice_index ids k ≡ x)

-- no two places have one identifier
pub record AreDifferent (nodes : List Node) : Type 0 where
  pub each : (j k : ℕ) (d : Node) → j < length nodes → k < length nodes → (slice_index_or nodes j d).me ≡ (slice_index_or nodes k d).me → j ≡ k
