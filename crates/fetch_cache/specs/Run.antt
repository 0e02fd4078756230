-- A scenario that is played with access points: its turns, one after another, to the end.
use Rattle.std.specs.Prelude.{◌≡◌, ◌≢◌, ℕ, Option, List, []}
use Rattle.ring_math.specs.Names.{FileId}
use Rattle.overlay_rules.specs.declared.entry.Entry.{Entry}
use Rattle.overlay_rules.specs.Played.{Action as Act, play_at_start}
use Rattle.scenario_reader.specs.Plain.{PlainScenario, ids}
use Rattle.schedule.specs.Schedule.{acts_of, setting_of}
use Rattle.schedule.specs.Turns.{Ends, turn_in}
use Rattle.fetch_cache.specs.declared.hit.Hit.{Hit}
use Rattle.fetch_cache.specs.Points.{points_at_start}
use Rattle.fetch_cache.specs.Turns.{PointPlay, point_turn, fetches_of}

-- A schedule leads from one play to another: the turns are taken until none is left.
pub data LeadsTo (fetches : List (Option FileId)) (end : PointPlay) : List Act → PointPlay → Type 0 where
  AtEnd : (acts : List Act) (p : PointPlay) → (turn_in acts p.play).step ≡ Ends → end ≡ p → LeadsTo fetches end acts p
  Onward : (acts : List Act) (p : PointPlay) → (turn_in acts p.play).step ≢ Ends →
      LeadsTo fetches end (turn_in acts p.play).left (point_turn fetches (turn_in acts p.play) p) → LeadsTo fetches end acts p

-- points with so much room, which remember nothing yet
abbrev pub start_of : PlainScenario → ℕ → PointPlay
start_of s room = record { play = play_at_start (setting_of s); points = points_at_start room (ids s.nodes); hits = [] }

-- these entries, skips and hits are those of the scenario's play with such points
pub record IsPointRun (s : PlainScenario) (room : ℕ) (es : List Entry) (skipped : ℕ) (hits : List Hit) : Type 0 where
  pub end : PointPlay
  pub plays : LeadsTo (fetches_of s.actions) end (acts_of s.actions) (start_of s room)
  pub entries : es ≡ end.play.world.past
  pub skips : skipped ≡ end.play.skipped
  pub hits_are : hits ≡ end.hits
