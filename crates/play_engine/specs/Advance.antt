-- One turn of a play.
use Rattle.std.specs.Prelude.{◌≡◌, ◌≢◌, Some}
use Rattle.scenario_reader.specs.Plain.{PlainScenario}
use Rattle.schedule.specs.declared.turn.Turn.{Turn}
use Rattle.schedule.specs.Cursors.{Spot, left_at, step_of, IsAtPlace}
use Rattle.schedule.specs.Turns.{Step, Happens, Skips, Ends, Turned, turn_in, play_after, skipped_after}
use Rattle.world_model.specs.Recorded.{Recorded, with_event}
use Rattle.play_engine.specs.Progress.{Progress, play_in, left_in}

-- the next turn of the schedule that is left
abbrev pub next_turn : PlainScenario → Progress → Turned
next_turn s a = turn_in (left_in s a) (play_in a)

-- The next turn is taken: it is an entry or a skip, the play is the play after it, and what is left is what stands behind it.
pub record TakesTurn (s : PlainScenario) (old new : Progress) : Type 0 where
  pub some : (next_turn s old).step ≢ Ends
  pub play : play_in new ≡ play_after (next_turn s old) (play_in old)
  pub left : left_in s new ≡ (next_turn s old).left

-- a cursor's answer is the next turn, and it stands behind that
pub record IsNext (s : PlainScenario) (a : Progress) (spot : Spot) (turn : Turn) : Type 0 where
  pub step : step_of s.actions turn ≡ Some (next_turn s a).step
  pub left : left_at s.actions spot ≡ (next_turn s a).left
  pub copies : spot.copies ≡ (next_turn s a).copies
  pub place : IsAtPlace a.spot spot turn

-- what a step makes of a record, and of a progress whose cursor stays
abbrev pub recorded_after : Step → Recorded → Recorded
recorded_after (Happens v) r = with_event r v
recorded_after Skips r = r
recorded_after Ends r = r

abbrev pub progress_after : Step → Progress → Progress
progress_after step a = record a { recorded = recorded_after step a.recorded; skipped = skipped_after step a.skipped }

abbrev pub moved_to : Spot → Progress → Progress
moved_to spot a = record a { spot = spot }
