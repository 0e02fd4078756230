use Rattle.std.proofs.Common.{◌∙◌, sym, ap}
use Rattle.std.specs.Prelude.{option_map}
use Rattle.scenario_reader.proofs.Outcomes.{id_of_named}
use Rattle.scenario_reader.proofs.builder.ScenarioBuilder.id_named.Goals as goal

pub returns-clause-declared : goal.returns-clause-declared
returns-clause-declared c =
    id_of_named _ _ _ (sym c.node_named.ensures ∙ ap (option_map (λ node. node.now)) c.in_ok-node.was)
