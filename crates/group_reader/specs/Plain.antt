-- A script of groups, and what stands of its actions so far, as values.
use Rattle.std.specs.Prelude.{ℕ, ◌+◌, List, [], ◌∷◌, ◌++◌}
use Rattle.scenario_reader.specs.Plain.{PlainScenario}
use Rattle.scribe_core.specs.declared.action.GroupAction.{GroupAction}
use Rattle.scribe_core.specs.declared.action.GroupWhat.{GroupWhat}
use Rattle.scribe_core.specs.declared.action.GroupWhat.TheVariants as what
use Rattle.scribe_core.specs.declared.message.GroupCommand.{GroupCommand}

-- a scenario, and actions in groups
pub record PlainScript : Type 0 where
  pub scenario : PlainScenario
  pub actions : List GroupAction

-- the actions so far over a scenario, how many of them are commands, and for how many deliveries they ask
pub record Draft : Type 0 where
  pub scenario : PlainScenario
  pub actions : List GroupAction
  pub commands : ℕ
  pub deliveries : ℕ

abbrev pub nothing_yet : PlainScenario → Draft
nothing_yet s = record { scenario = s; actions = []; commands = 0; deliveries = 0 }

abbrev pub script_of : Draft → PlainScript
script_of d = record { scenario = d.scenario; actions = d.actions }

-- with one more action, of line n
abbrev pub with_what : Draft → ℕ → GroupWhat → List GroupAction
with_what d n what = d.actions ++ record { line = n; what = what } ∷ []

-- with one more command, which has the next number
abbrev pub with_command : Draft → ℕ → ℕ → List ℕ → GroupCommand → Draft
with_command d n node group command =
    record d { actions = with_what d n (what.Command (d.commands + 1) node group command); commands = d.commands + 1 }

-- with one more action that asks for deliveries
abbrev pub with_deliveries : Draft → ℕ → GroupWhat → ℕ → Draft
with_deliveries d n what count = record d { actions = with_what d n what; deliveries = d.deliveries + count }
