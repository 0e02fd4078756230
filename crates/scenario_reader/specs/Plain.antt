-- A scenario, and what stands of one so far, as values.
use Rattle.std.specs.Prelude.{ℕ, List, [], map, find, bytes_eq, Option, None}
use Rattle.scenario_reader.specs.declared.node.NodeLine.{NodeLine}
use Rattle.scenario_reader.specs.declared.node.FileLine.{FileLine}
use Rattle.scenario_reader.specs.declared.action.Action.{Action}

-- a scenario
pub record PlainScenario : Type 0 where
  pub nodes : List NodeLine
  pub founder : ℕ
  pub files : List FileLine
  pub actions : List Action

-- what stands so far, before the end is reached
pub record Draft : Type 0 where
  pub nodes : List NodeLine
  pub founder : Option ℕ
  pub files : List FileLine
  pub actions : List Action

abbrev pub nothing_yet : Draft
nothing_yet = record { nodes = []; founder = None; files = []; actions = [] }

-- the scenario that a draft comes to with this founder
abbrev pub with_founder : Draft → ℕ → PlainScenario
with_founder draft founder =
    record { nodes = draft.nodes; founder = founder; files = draft.files; actions = draft.actions }

-- the identifiers of nodes
abbrev pub ids : List NodeLine → List ℕ
ids nodes = map (λ (node : NodeLine). node.id) nodes

-- names that are taken
abbrev pub node_names : List NodeLine → List (List ℕ)
node_names nodes = map (λ (node : NodeLine). node.name) nodes

abbrev pub file_names : List FileLine → List (List ℕ)
file_names files = map (λ (file : FileLine). file.name) files

-- the node, and the file, that was declared under a name
abbrev pub node_named : List NodeLine → List ℕ → Option NodeLine
node_named nodes name = find (λ (node : NodeLine). bytes_eq node.name name) nodes

abbrev pub file_named : List FileLine → List ℕ → Option FileLine
file_named files name = find (λ (file : FileLine). bytes_eq file.name name) files
