-- What a cursor stands for: the schedule that is left of a scenario.
use Rattle.std.specs.Prelude.{◌≡◌, ◌≤◌, ◌+◌, ℕ, Option, Some, None, List, [], ◌++◌, drop, slice_get, option_map, option_and_then}
use Rattle.overlay_rules.specs.declared.entry.Event.{Event}
use Rattle.overlay_rules.specs.declared.entry.Event.TheVariants as event
use Rattle.overlay_rules.specs.Played.{Action as Act}
use Rattle.scenario_reader.specs.declared.action.Action.{Action}
use Rattle.scenario_reader.specs.declared.action.What.{What}
use Rattle.scenario_reader.specs.declared.action.What.TheVariants as what
use Rattle.schedule.specs.declared.turn.Turn.{Turn}
use Rattle.schedule.specs.declared.turn.Turn.TheVariants as turn
use Rattle.schedule.specs.Schedule.{acts_of}
use Rattle.schedule.specs.Turns.{Step, Happens, Skips, Ends, Turned, turned}

-- The actions before a place have begun, this is left of the last of them, and so many copies are in force.
pub record Spot : Type 0 where
  pub place : ℕ
  pub begun : List Act
  pub copies : ℕ

abbrev pub spot_at_start : Spot
spot_at_start = record { place = 0; begun = []; copies = 1 }

abbrev pub left_at : List Action → Spot → List Act
left_at actions spot = spot.begun ++ acts_of (drop spot.place actions)

-- the next turn at a spot
abbrev pub turn_at : List Action → Spot → ℕ → Option ℕ → Turned
turn_at actions spot sent oldest = turned (left_at actions spot) spot.copies sent oldest

-- the event that an action is, where it is one alone
abbrev pub event_of : What → Option Event
event_of (what.Command number node command) = Some (event.Command node number command)
event_of (what.Settle count) = None
event_of (what.Deliver message) = None
event_of (what.Shuffle seed count) = None
event_of (what.Dup copies) = None
event_of (what.Noise node bytes) = Some (event.Noise node)

-- the step that a turn means among these actions; None where it names no action that is an event
abbrev pub step_of : List Action → Turn → Option Step
step_of actions (turn.Action place) =
    option_map Happens (option_and_then (λ (action : Action). event_of action.what) (slice_get actions place))
step_of actions (turn.Deliver message) = Some (Happens (event.Deliver message))
step_of actions turn.Skip = Some Skips
step_of actions turn.Finished = Some Ends

-- an action that a turn names is the last that has begun
abbrev pub IsAtPlace : Spot → Spot → Turn → Type 0
IsAtPlace old new (turn.Action place) = (old.place ≤ place) × (new.place ≡ place + 1)
IsAtPlace old new (turn.Deliver message) = old.place ≤ new.place
IsAtPlace old new turn.Skip = old.place ≤ new.place
IsAtPlace old new turn.Finished = old.place ≤ new.place
