-- The actions of a scenario, as a schedule of a record has them.
use Rattle.std.specs.Prelude.{List, map}
use Rattle.overlay_rules.specs.Played.{Action as Act, Command, Settle, Deliver, Shuffle, Dup, Noise, Play, played}
use Rattle.overlay_rules.specs.Record.{Setting}
use Rattle.scenario_reader.specs.declared.action.Action.{Action}
use Rattle.scenario_reader.specs.declared.action.What.{What}
use Rattle.scenario_reader.specs.declared.action.What.TheVariants as what
use Rattle.scenario_reader.specs.Plain.{PlainScenario, ids}
use Rattle.schedule.specs.Words.{words_from}

abbrev pub act_of : What → Act
act_of (what.Command number node command) = Command node number command
act_of (what.Settle count) = Settle count
act_of (what.Deliver message) = Deliver message
act_of (what.Shuffle seed count) = Shuffle (words_from seed 0 count)
act_of (what.Dup copies) = Dup copies
act_of (what.Noise node bytes) = Noise node

abbrev pub acts_of : List Action → List Act
acts_of actions = map (λ (action : Action). act_of action.what) actions

abbrev pub setting_of : PlainScenario → Setting
setting_of s = record { nodes = ids s.nodes; founder = s.founder }

-- the play of a scenario: its entries and skips are the played record's
abbrev pub play_of : PlainScenario → Play
play_of s = played (setting_of s) (acts_of s.actions)
