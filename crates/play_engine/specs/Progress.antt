-- How far a scenario is played.
use Rattle.std.specs.Prelude.{◌≡◌, ◌≤◌, ◌+◌, ◌*◌, ℕ, List, [], ◌∷◌, length, take}
use Rattle.overlay_rules.specs.declared.entry.Entry.{Entry}
use Rattle.overlay_rules.specs.Played.{Action as Act, Command, Settle, Deliver, Shuffle, Dup, Noise, Play}
use Rattle.scenario_reader.specs.declared.action.Action.{Action}
use Rattle.scenario_reader.specs.declared.limits.TheConstants.{MOST_DELIVERIES}
use Rattle.scenario_reader.specs.Plain.{PlainScenario, ids}
use Rattle.scenario_reader.specs.Tallies.{tally_of}
use Rattle.schedule.specs.Cursors.{Spot, spot_at_start, left_at}
use Rattle.schedule.specs.Playing.{IsPlayedTo}
use Rattle.schedule.specs.Schedule.{play_of}
use Rattle.world_model.specs.Numbers.{IsNewest}
use Rattle.world_model.specs.Recorded.{Recorded, world_of}

-- the record so far, a place in the schedule, and the deliveries that found no message
pub record Progress : Type 0 where
  pub recorded : Recorded
  pub spot : Spot
  pub skipped : ℕ

abbrev pub progress_at_start : PlainScenario → Progress
progress_at_start s =
    record {
      recorded = record { nodes = ids s.nodes; founder = s.founder; entries = [] };
      spot = spot_at_start;
      skipped = 0;
    }

-- the play so far, and what is left of the schedule behind it
abbrev pub play_in : Progress → Play
play_in a = record { world = world_of a.recorded; copies = a.spot.copies; skipped = a.skipped }

abbrev pub left_in : PlainScenario → Progress → List Act
left_in s a = left_at s.actions a.spot

-- the commands among the actions before a place
abbrev pub commands_before : List Action → ℕ → ℕ
commands_before actions place = (tally_of (take place actions)).commands

-- the deliveries that a schedule may come to, with so many copies in force
abbrev pub draws : ℕ → List Act → ℕ
draws copies [] = 0
draws copies (Command node number command ∷ acts) = draws copies acts
draws copies (Settle n ∷ acts) = n * copies + draws copies acts
draws copies (Deliver m ∷ acts) = 1 + draws copies acts
draws copies (Shuffle words ∷ acts) = length words + draws copies acts
draws copies (Dup n ∷ acts) = draws n acts
draws copies (Noise node ∷ acts) = draws copies acts

-- A scenario can be played on: from its setting, no command that came has a number of those to come, and the skips that came
-- and can come are few.
pub record PlaysOn (s : PlainScenario) (a : Progress) : Type 0 where
  pub nodes : a.recorded.nodes ≡ ids s.nodes
  pub founder : a.recorded.founder ≡ s.founder
  pub newest : IsNewest (commands_before s.actions a.spot.place + 1) a.recorded.entries
  pub skips : a.skipped + draws a.spot.copies (left_in s a) ≤ MOST_DELIVERIES

-- a scenario is played this far: what is left plays on to its played record
pub record Plays (s : PlainScenario) (a : Progress) : Type 0 where
  pub on : PlaysOn s a
  pub played : IsPlayedTo s a.spot (play_in a)

-- these entries and skips are the played record's
pub record IsWhole (s : PlainScenario) (es : List Entry) (skipped : ℕ) : Type 0 where
  pub entries : es ≡ (play_of s).world.past
  pub skips : skipped ≡ (play_of s).skipped
