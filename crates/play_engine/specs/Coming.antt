-- What can come in a world.
use Rattle.std.specs.Prelude.{◌<◌, ◌+◌, ◌^◌, Bool, true, false, List, length, slice_index_or, Contains}
use Rattle.overlay_rules.specs.declared.entry.Event.TheVariants as event
use Rattle.overlay_rules.specs.Record.{sent_in}
use Rattle.step_facts.specs.Receivers.{ViaIs}
use Rattle.scenario_reader.specs.declared.action.Action.{Action}
use Rattle.scenario_reader.specs.declared.action.What.{What}
use Rattle.scenario_reader.specs.declared.action.What.TheVariants as what
use Rattle.schedule.specs.declared.turn.Turn.{Turn}
use Rattle.schedule.specs.declared.turn.Turn.TheVariants as turn
use Rattle.world_model.specs.Numbers.{IsNewest}
use Rattle.world_model.specs.Recorded.{Recorded, setting_of}
use Rattle.play_engine.specs.Progress.{Progress}

-- a command of a number greater than all so far, a Join by way of a node, or noise, at a node
abbrev pub CanAct : Recorded → What → Type 0
CanAct r (what.Command number node command) =
    Contains r.nodes node × IsNewest number r.entries × ViaIs (setting_of r) (event.Command node number command)
CanAct r (what.Settle count) = ⊥
CanAct r (what.Deliver message) = ⊥
CanAct r (what.Shuffle seed count) = ⊥
CanAct r (what.Dup copies) = ⊥
CanAct r (what.Noise node bytes) = Contains r.nodes node

-- the action at its place can come, the message was sent, the skip can be counted
abbrev pub CanCome : List Action → Progress → Turn → Type 0
CanCome actions a (turn.Action place) =
    (place < length actions) × ((d : Action) → CanAct a.recorded (slice_index_or actions place d).what)
CanCome actions a (turn.Deliver message) = message < length (sent_in a.recorded.entries)
CanCome actions a turn.Skip = a.skipped + 1 < 2 ^ 64
CanCome actions a turn.Finished = Unit {0}

-- whether a turn is an entry or a skip
abbrev pub is_some : Turn → Bool
is_some (turn.Action place) = true
is_some (turn.Deliver message) = true
is_some turn.Skip = true
is_some turn.Finished = false
