-- What was prepared is an outcome: its messages, its notes, and the state that its change makes.
use Rattle.std.specs.Prelude.{◌≡◌}
use Rattle.overlay_rules.specs.State.{State}
use Rattle.overlay_rules.specs.Outcome.{Outcome}
use Rattle.node_parts.specs.declared.change.Prepared.{Prepared}
use Rattle.node_parts.specs.Change.{changed}
use Rattle.node_parts.specs.Makes.{Makes}

pub record Plans (s : State) (p : Prepared) (o : Outcome) : Type 0 where
  pub state : changed p.change s ≡ o.state
  pub messages : p.messages ≡ o.sends
  pub notes : p.notes ≡ o.notes

-- the same, where the change need not learn what neither leaves nor prefix table show
pub record Prepares (s : State) (p : Prepared) (o : Outcome) : Type 0 where
  pub state : Makes p.change s o.state
  pub messages : p.messages ≡ o.sends
  pub notes : p.notes ≡ o.notes
