-- Which scenarios can't be run: those of too many nodes, and those that name or draw the messages to be delivered.
use Rattle.std.specs.Prelude.{◌≡◌, ℕ, min, Bool, true, false, Option, Some, None, List, ◌++◌, map, filter, slice_get, option_to_list}
use Rattle.std.specs.List.{reduce}
use Rattle.scenario_reader.specs.declared.node.NodeLine.{NodeLine}
use Rattle.scenario_reader.specs.declared.action.Action.{Action}
use Rattle.scenario_reader.specs.declared.action.What.{What}
use Rattle.scenario_reader.specs.declared.action.What.TheVariants as what
use Rattle.scenario_reader.specs.Plain.{PlainScenario}
use Rattle.overlay_harness.specs.declared.fault.RunFault.{RunFault}
use Rattle.overlay_harness.specs.declared.fault.RunFault.TheVariants as fault
use Rattle.overlay_harness.specs.declared.limits.TheConstants.{MOST_RUN_NODES}

abbrev pub chooses_messages : What → Bool
chooses_messages (what.Deliver n) = true
chooses_messages (what.Shuffle seed count) = true
chooses_messages (what.Command number node command) = false
chooses_messages (what.Settle n) = false
chooses_messages (what.Dup n) = false
chooses_messages (what.Noise node bytes) = false

-- the lines of its deliver and shuffle actions
abbrev pub choosing_lines : List Action → List ℕ
choosing_lines actions = map (λ (a : Action). a.line) (filter (λ (a : Action). chooses_messages a.what) actions)

-- the line of the first node that is one too many, if there is one
abbrev pub lines_too_many : List NodeLine → List ℕ
lines_too_many nodes = map (λ (n : NodeLine). n.line) (option_to_list (slice_get nodes MOST_RUN_NODES))

abbrev pub unfit_lines : PlainScenario → List ℕ
unfit_lines s = choosing_lines s.actions ++ lines_too_many s.nodes

-- the first of these lines, if there is one
abbrev pub least : List ℕ → Option ℕ
least lines = reduce min lines

abbrev pub first_unfit_line : PlainScenario → Option ℕ
first_unfit_line s = least (unfit_lines s)

-- the first of a line and one that may be missing
abbrev pub first_of : Option ℕ → ℕ → ℕ
first_of None line = line
first_of (Some other) line = min other line

-- why a scenario was not run: the first line that a run can't have, or want of memory
abbrev pub IsDueTo : PlainScenario → RunFault → Type 0
IsDueTo s (fault.NotForRun line) = first_unfit_line s ≡ Some line
IsDueTo s fault.OutOfMemory = Unit {0}
