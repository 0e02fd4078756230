-- What a step makes: the node stands for the outcome's state, and the output is the outcome's.
use Rattle.std.specs.Prelude.{◌≡◌}
use Rattle.overlay_rules.specs.Outcome.{Outcome}
use Rattle.node_parts.specs.declared.node.Node.{Node}
use Rattle.node_parts.specs.Seen.{Stands}
use Rattle.node_core.specs.declared.input.Output.{Output}

pub record Stepped (n : Node) (out : Output) (o : Outcome) : Type 0 where
  pub stands : Stands n o.state
  pub messages : out.messages ≡ o.sends
  pub notes : out.notes ≡ o.notes
