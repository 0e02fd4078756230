-- A map from identifiers to nodes, and guesses of them.
use Rattle.std.specs.Prelude.{◌≡◌, ℕ, ◌==◌, Option, Some, None, List, find}
use Rattle.std.specs.Borrow.{Bor}
use Rattle.std.specs.Option.{option_copied}
use Rattle.std.specs.Ordering.{nat_cmp}
use Rattle.std.specs.BTreeMap.{BTreeMap, get}
use Rattle.scenario_reader.specs.declared.node.NodeLine.{NodeLine}

-- the map has the first node with each identifier, and no other
pub record FindsAll (by_id : BTreeMap ℕ (Bor NodeLine)) (nodes : List NodeLine) : Type 0 where
  pub finds : (id : ℕ) → option_copied (get nat_cmp by_id id) ≡ find (λ (node : NodeLine). node.id == id) nodes

-- a guess is the first node with its identifier
abbrev pub IsRight : List NodeLine → Option (Bor NodeLine) → Type 0
IsRight nodes None = Unit {0}
IsRight nodes (Some guess) = find (λ (node : NodeLine). node.id == guess.now.id) nodes ≡ Some guess.now
