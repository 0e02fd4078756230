-- That a scenario was played with access points.
use Rattle.std.specs.Prelude.{◌≡◌, ℕ, List, Option, Some}
use Rattle.fetch_cache.specs.declared.hit.Hit.{Hit}
use Rattle.fetch_cache.specs.Run.{IsPointRun}
use Rattle.fetch_cache.specs.Text.{points_text}
use Rattle.file_laws.specs.Hits.{AreRightHits}
use Rattle.overlay_rules.specs.declared.entry.Record.{Record}
use Rattle.overlay_rules.specs.Record.{IsRecord}
use Rattle.pastry.specs.Headline.{Headline}
use Rattle.scenario_reader.specs.Plain.{PlainScenario}
use Rattle.schedule.specs.Schedule.{setting_of}

-- This record and these hits are those of the play of the scenario with points of so much room. The record is legal, and the
-- headline holds of it. Each hit gives bytes that were found at its node, and that were the first to be accepted for its file.
pub record IsPointed (s : PlainScenario) (room : ℕ) (r : Record) (hits : List Hit) : Type 0 where
  pub run : IsPointRun s room r.entries r.skipped hits
  pub legal : IsRecord (setting_of s) r.entries
  pub headline : Headline (setting_of s) r.entries
  pub right : AreRightHits s r.entries hits

-- such a record and its report, before any of it is written
pub record IsToBeTold (s : PlainScenario) (room : ℕ) (r : Record) (text : List ℕ) : Type 0 where
  pub hits : List Hit
  pub is : IsPointed s room r hits
  pub is_text : text ≡ points_text s r hits

-- of a scenario, of which R says where it comes from, there is such a record; and W says what became of the report
pub record HasPointed (R : PlainScenario → Type 0) (room : ℕ) (W : List ℕ → Type 0) (told : Option Record) : Type 0 where
  pub scenario : PlainScenario
  pub record_of : Record
  pub hits : List Hit
  pub from : R scenario
  pub is : IsPointed scenario room record_of hits
  pub same : told ≡ Some record_of
  pub written : W (points_text scenario record_of hits)
