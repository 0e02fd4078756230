-- The states that a node stands for. Its parts determine all of a state but the list of identifiers that it learnt, of which it
-- keeps the leaves and the prefix table.
use Rattle.std.specs.Prelude.{◌≡◌, List}
use Rattle.ring_math.specs.Names.{Id}
use Rattle.overlay_rules.specs.State.{State}
use Rattle.lookup_core.specs.Kept.{StandsFor}
use Rattle.node_parts.specs.declared.node.Node.{Node}
use Rattle.node_parts.specs.Sound.{IsSound}

-- the state, where the node has learnt this list
abbrev pub seen : Node → List Id → State
seen n known =
    record {
      me = n.me;
      phase = n.seat;
      left_gate = n.left_gate;
      right_gate = n.right_gate;
      known = known;
      files = n.store.files;
      pending = n.past.asks;
      waiting = n.waiting.items;
    }

-- the node may have learnt this list
pub record Shows (n : Node) (known : List Id) : Type 0 where
  pub keeps : StandsFor n.known known
  pub sound : IsSound (seen n known)

-- the node has the parts of the state, and may have learnt its list
pub record Keeps (n : Node) (s : State) : Type 0 where
  pub knows : StandsFor n.known s.known
  pub same : s ≡ seen n s.known

-- the node stands for the state
pub record Stands (n : Node) (s : State) : Type 0 where
  pub shows : Shows n s.known
  pub same : s ≡ seen n s.known
