-- Run of a scenario.
use Rattle.std.specs.Prelude.{◌≡◌, false, Bool, List, map, All, Contains}
use Rattle.std.specs.List.{list_any}
use Rattle.ring_math.specs.Names.{Id}
use Rattle.wire_msg.specs.Words.{Envelope}
use Rattle.overlay_rules.specs.declared.entry.Event.{Event}
use Rattle.overlay_rules.specs.declared.entry.Event.TheVariants as event
use Rattle.overlay_rules.specs.declared.entry.Entry.{Entry}
use Rattle.overlay_rules.specs.declared.entry.Record.{Record}
use Rattle.overlay_rules.specs.Record.{Legal, sent_in}
use Rattle.scenario_reader.specs.Plain.{PlainScenario, ids}
use Rattle.schedule.specs.Schedule.{setting_of}
use Rattle.weave_laws.specs.Woven.{IsWoven}
use Rattle.overlay_harness.specs.Stages.{Stage, has_command, stages_behind, stages_of}
use Rattle.overlay_harness.specs.Inputs.{history_at, inputs_at}
use Rattle.overlay_harness.specs.Clauses.{HasItsCommands, HasItsNoise, IsServed, IsWithinBudgets, WasSentEnough}

-- a command of a stage behind the last that has a budget
abbrev pub is_late_event : List Stage → Event → Bool
is_late_event stages (event.Command x n c) = list_any (has_command n) (stages_behind stages)
is_late_event stages (event.Deliver m) = false
is_late_event stages (event.Noise x) = false

-- an entry that is not late sent it
pub record WasSentInTime (stages : List Stage) (es : List Entry) (v : Envelope) : Type 0 where
  pub entry : Entry
  pub stands : Contains es entry
  pub in_time : is_late_event stages entry.event ≡ false
  pub sent : Contains entry.messages v

-- what holds at a node of the scenario
pub record IsRunAt (stages : List Stage) (es : List Entry) (x : Id) : Type 0 where
  pub commands : HasItsCommands stages x (inputs_at x es)
  pub budgets : IsWithinBudgets stages (inputs_at x es)
  pub served : IsServed stages (WasSentInTime stages es) x (inputs_at x es)
  pub noise : HasItsNoise stages x (inputs_at x es)
  pub sent : WasSentEnough stages (sent_in es) (inputs_at x es)

-- A record is a run of a scenario: it is legal from its nodes and founder and skips nothing; at each node it has the
-- scenario's commands, keeps to the budgets, is served to its end, and has no more noise and copies than there can be; and it
-- is woven from the histories that cells have for its inputs at each node, stamps included.
pub record IsRunOf (s : PlainScenario) (r : Record) : Type 0 where
  pub legal : Legal (setting_of s) r.entries
  pub whole : r.skipped ≡ 0
  pub at_each : All (IsRunAt (stages_of s) r.entries) (ids s.nodes)
  pub woven : IsWoven (map (history_at (setting_of s) r.entries) (ids s.nodes)) r
