-- What a draft of a script keeps.
use Rattle.std.specs.Prelude.{◌≡◌, ◌≤◌, ℕ, List, [], ◌∷◌, length}
use Rattle.scenario_reader.specs.declared.limits.TheConstants.{MOST_DELIVERIES}
use Rattle.scenario_reader.specs.Plain.{ids}
use Rattle.scribe_core.specs.declared.action.GroupAction.{GroupAction}
use Rattle.scribe_core.specs.Actions.{AreActions, counted}
use Rattle.group_reader.specs.Plain.{Draft}

-- how many of these actions are commands, behind so many
abbrev pub commands_in : ℕ → List GroupAction → ℕ
commands_in commands [] = commands
commands_in commands (action ∷ actions) = commands_in (counted commands action.what) actions

pub record KeepsRules (d : Draft) : Type 0 where
  pub actions : AreActions (ids d.scenario.nodes) d.actions
  pub commands : d.commands ≡ commands_in 0 d.actions
  pub few : d.commands ≤ length d.actions
  pub deliveries : d.deliveries ≤ MOST_DELIVERIES
