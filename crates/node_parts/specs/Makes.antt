-- The state that a change makes, but for what was learnt: of that it makes what leaves and prefix table show.
use Rattle.std.specs.Prelude.{◌≡◌}
use Rattle.overlay_rules.specs.State.{State}
use Rattle.lookup_core.specs.Kept.{Kept, StandsFor}
use Rattle.node_parts.specs.declared.change.Change.{Change}
use Rattle.node_parts.specs.Change.{changed}

-- whoever may have learnt what the change makes of s may have learnt what t has
pub record Makes (c : Change) (s t : State) : Type 0 where
  pub same : t ≡ record (changed c s) { known = t.known }
  pub known : (k : Kept) → k.leafs.me ≡ s.me → StandsFor k (changed c s).known → StandsFor k t.known
