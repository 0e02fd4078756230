use Rattle.std.proofs.Common.{◌∙◌, Contains, List, ap, subst, sym}
use Rattle.std.specs.Prelude.{option_map}
use Rattle.scenario_reader.specs.declared.node.NodeLine.{NodeLine}
use Rattle.scenario_reader.specs.Plain.{ids}
use Rattle.group_reader.specs.Plain.{Draft}
use Rattle.group_reader.proofs.Reading.{id_of_named}
use Rattle.group_reader.proofs.builder.ScriptBuilder.node.Goals as goal

pub returns-clause-declared : goal.returns-clause-declared
returns-clause-declared c =
    subst (λ (nodes : List NodeLine). Contains (ids nodes) c.in_ok-node.node.now.id)
    (c.nodes.ensures.value ∙ ap (λ (d : Draft). d.scenario.nodes) c.self.view_is)
    (id_of_named c.nodes.result.now c.args.name.now c.in_ok-node.node.now
    (sym c.node_named.ensures ∙ ap (option_map (λ node. node.now)) c.in_ok-node.was))
