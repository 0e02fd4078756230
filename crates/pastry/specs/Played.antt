-- That a scenario was played, or run.
use Rattle.std.specs.Prelude.{◌≡◌, ℕ, List, Option, Some}
use Rattle.overlay_rules.specs.declared.entry.Record.{Record}
use Rattle.overlay_rules.specs.Record.{IsRecord}
use Rattle.scenario_reader.specs.Plain.{PlainScenario}
use Rattle.schedule.specs.Schedule.{play_of, setting_of}
use Rattle.overlay_harness.specs.Run.{IsRunOf}
use Rattle.pastry.specs.Headline.{Headline}

-- this record is the played record of the scenario: its entries and skips are those of the play of the actions. It is legal,
-- and the headline holds of it
pub record IsPlayed (s : PlainScenario) (r : Record) : Type 0 where
  pub entries : r.entries ≡ (play_of s).world.past
  pub skipped : r.skipped ≡ (play_of s).skipped
  pub legal : IsRecord (setting_of s) r.entries
  pub headline : Headline (setting_of s) r.entries

-- this record is one of the runs that the scenario has. It is legal, and the headline holds of it
pub record IsRun (s : PlainScenario) (r : Record) : Type 0 where
  pub is_run : IsRunOf s r
  pub legal : IsRecord (setting_of s) r.entries
  pub headline : Headline (setting_of s) r.entries

-- of a scenario or a script, of which R says where it comes from, there is a record, of which P holds; and W says what became of
-- its text, which `text_of` gives
pub record HasTold {A : Type 0} (R : A → Type 0) (P : A → Record → Type 0) (text_of : A → Record → List ℕ) (W : List ℕ → Type 0)
    (told : Option Record) : Type 0 where
  pub scenario : A
  pub record_of : Record
  pub from : R scenario
  pub is : P scenario record_of
  pub same : told ≡ Some record_of
  pub written : W (text_of scenario record_of)
