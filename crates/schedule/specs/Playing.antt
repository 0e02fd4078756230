-- How far a scenario is played, by a cursor and a play.
use Rattle.std.specs.Prelude.{◌≡◌, ◌≤◌, List, ◌++◌}
use Rattle.overlay_rules.specs.declared.entry.Entry.{Entry}
use Rattle.overlay_rules.specs.Played.{Action as Act, Play, acted_all}
use Rattle.scenario_reader.specs.Plain.{PlainScenario}
use Rattle.schedule.specs.Cursors.{Spot, left_at}
use Rattle.schedule.specs.Schedule.{play_of}
use Rattle.schedule.specs.Turns.{turn_in, play_after}

-- A schedule's next turn is the beginning of its play: what is left plays on from there to the same end.
abbrev pub PlaysOn : List Act → Play → Type 0
PlaysOn acts p = acted_all acts p ≡ acted_all (turn_in acts p).left (play_after (turn_in acts p) p)

-- The play has come as far as the cursor: what is left of the scenario plays on to the played record.
pub record IsPlayedTo (s : PlainScenario) (spot : Spot) (p : Play) : Type 0 where
  pub copies : p.copies ≡ spot.copies
  pub ends : acted_all (left_at s.actions spot) p ≡ play_of s

-- the entries and skips of a play are a beginning of those of another
pub record IsBeginning (p q : Play) : Type 0 where
  pub more : List Entry
  pub entries : q.world.past ≡ p.world.past ++ more
  pub skips : p.skipped ≤ q.skipped
