-- How far a scenario is played with access points.
use Rattle.std.specs.Prelude.{◌≡◌, ◌≢◌, ◌⊎◌, Bool, true, Option, Some, None, List, ◌∷◌, ◌++◌, []}
use Rattle.ring_math.specs.Names.{FileId, Content}
use Rattle.scenario_reader.specs.Plain.{PlainScenario}
use Rattle.schedule.specs.declared.turn.Turn.{Turn}
use Rattle.schedule.specs.Turns.{Step, Ends}
use Rattle.world_model.specs.Recorded.{world_of}
use Rattle.play_engine.specs.Advance.{next_turn, progress_after}
use Rattle.play_engine.specs.Coming.{is_some}
use Rattle.play_engine.specs.Progress.{Progress, play_in, left_in}
use Rattle.fetch_cache.specs.declared.fetch.Fetch.{Fetch}
use Rattle.fetch_cache.specs.declared.hit.Hit.{Hit}
use Rattle.fetch_cache.specs.Points.{Point, remembered, changed_at, asked}
use Rattle.fetch_cache.specs.Turns.{PointPlay, fetch_in, point_turn, told_step}

-- a play, its access points and hits, and what its commands fetch
pub record PointProgress : Type 0 where
  pub progress : Progress
  pub points : List Point
  pub hits : List Hit
  pub fetches : List (Option FileId)

abbrev pub point_play_in : PointProgress → PointPlay
point_play_in a = record { play = play_in a.progress; points = a.points; hits = a.hits }

-- the step is a fetch of bytes that were remembered, which is noted
pub record Hits (step : Step) (old new : PointProgress) : Type 0 where
  pub fetch : Fetch
  pub is : fetch_in step ≡ Some fetch
  pub bytes : Content
  pub known : remembered fetch.node fetch.file old.points ≡ Some bytes
  pub made : new ≡ record old {
    points = changed_at fetch.node (asked fetch.file) old.points;
    hits = old.hits ++ record { number = fetch.number; bytes = bytes } ∷ [];
  }

-- the step is no fetch of what is remembered
abbrev pub IsUnknown : Option Fetch → List Point → Type 0
IsUnknown None points = Unit {0}
IsUnknown (Some fetch) points = remembered fetch.node fetch.file points ≡ None

abbrev pub made_of : Step → PointProgress → PointProgress
made_of step a =
    record a { progress = progress_after step a.progress; points = told_step a.fetches (world_of a.progress.recorded) step a.points }

-- A turn was taken, or none was left: it is a hit, or it was made.
abbrev pub Took : Turn → Step → Bool → PointProgress → PointProgress → Type 0
Took turn step more old new =
    (Hits step old new × (more ≡ true)) ⊎ (IsUnknown (fetch_in step) old.points × (more ≡ is_some turn) × (new ≡ made_of step old))

-- the next turn was taken, and what is left stands behind it
pub record TakesTurn (s : PlainScenario) (old new : PointProgress) : Type 0 where
  pub some : (next_turn s old.progress).step ≢ Ends
  pub play : point_play_in new ≡ point_turn old.fetches (next_turn s old.progress) (point_play_in old)
  pub left : left_in s new.progress ≡ (next_turn s old.progress).left
  pub fetches : new.fetches ≡ old.fetches
