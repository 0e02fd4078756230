-- What is done to one cell in one stage: it is told the stage's commands to its node, and then takes frames.
use Rattle.std.specs.Prelude.{◌≡◌, ◌≤◌, ◌==◌, ℕ, true, Some, List, [], ◌∷◌, length, map, slice_get, All}
use Rattle.ring_math.specs.Names.{Id}
use Rattle.scenario_reader.specs.declared.action.Action.{Action}
use Rattle.scenario_reader.specs.declared.node.NodeLine.{NodeLine}
use Rattle.scenario_reader.specs.declared.node.FileLine.{FileLine}
use Rattle.scenario_reader.specs.declared.tally.Tally.{Tally}
use Rattle.scenario_reader.specs.Plain.{PlainScenario}
use Rattle.scenario_reader.specs.Rules.{AreActions}
use Rattle.weave_laws.specs.Cells.{CellEntry, CellInput, Command, Comes, Noise}
use Rattle.node_cell.specs.Cell.{Cell, empty_cell, with_input}
use Rattle.overlay_harness.specs.Stages.{Stage, commands_to}
use Rattle.overlay_harness.specs.Inputs.{is_frame}

-- one input after another is taken in
abbrev pub with_inputs : Cell → List CellInput → Cell
with_inputs c [] = c
with_inputs c (i ∷ inputs) = with_inputs (with_input c i) inputs

-- the commands to its node are submitted, in order
abbrev pub told : List Action → Cell → Cell
told actions c = with_inputs c (commands_to c.node actions)

-- frames came, and nothing else, at most so many
pub record TookFrames (most : ℕ) (old new : Cell) : Type 0 where
  pub frames : List CellInput
  pub are : All (λ (i : CellInput). is_frame i ≡ true) frames
  pub few : length frames ≤ most
  pub took : new ≡ with_inputs old frames

-- first the commands, and then frames within the budget
abbrev pub ServedStage : Stage → Cell → Cell → Type 0
ServedStage stage old new = TookFrames stage.budget (told stage.actions old) new

-- ---- cells

-- nothing came yet to any node of the scenario
abbrev pub fresh_cells : PlainScenario → List Cell
fresh_cells s = map (λ (n : NodeLine). empty_cell n.id (n.id == s.founder)) s.nodes

-- the cell of the node stands at this place
pub record IsPlaceOf (cells : List Cell) (x : Id) (place : ℕ) : Type 0 where
  pub cell : Cell
  pub there : slice_get cells place ≡ Some cell
  pub node : cell.node ≡ x

-- a command of a number above this one may be submitted
abbrev pub IsNumberedUpTo : ℕ → CellInput → Type 0
IsNumberedUpTo most (Command n c) = n ≤ most
IsNumberedUpTo most (Comes v) = Unit {0}
IsNumberedUpTo most Noise = Unit {0}

abbrev pub HasNumbersUpTo : ℕ → Cell → Type 0
HasNumbersUpTo most c = All (λ (e : CellEntry). IsNumberedUpTo most e.input) c.history

-- the commands of these actions may be submitted: the actions keep a scenario's rules behind some others, and no command that
-- the cells took has a number above those
pub record MayBeTold (cells : List Cell) (actions : List Action) : Type 0 where
  pub nodes : List NodeLine
  pub files : List FileLine
  pub tally : Tally
  pub rules : AreActions nodes files tally actions
  pub numbers : All (HasNumbersUpTo tally.commands) cells
