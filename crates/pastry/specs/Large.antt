-- That a large scenario was played.
use Rattle.std.specs.Prelude.{ℕ}
use Rattle.delivery_report.specs.Report.{closings_of}
use Rattle.delivery_report.specs.Texts.{commands_of}
use Rattle.file_laws.specs.Given.{IsGiven}
use Rattle.overlay_rules.specs.declared.entry.Record.{Record}
use Rattle.pastry.specs.Played.{IsPlayed}
use Rattle.scenario_reader.specs.Plain.{PlainScenario}

-- This record is the played record of the scenario. Where each insert was answered Stored, and what is written says that the file
-- is whole, its fragments that were found are joined to the bytes that were generated.
pub record IsPlayedLarge (seed size : ℕ) (s : PlainScenario) (r : Record) : Type 0 where
  pub played : IsPlayed s r
  pub given : IsGiven seed size (closings_of (commands_of s) r.entries)
