-- The two texts of a scenario and its record: the report, and the summary with the tally.
use Rattle.std.specs.Prelude.{ℕ, List}
use Rattle.overlay_rules.specs.declared.entry.Record.{Record}
use Rattle.scenario_reader.specs.Plain.{PlainScenario}
use Rattle.scenario_reader.specs.Tallies.{tally_of}
use Rattle.schedule.specs.Schedule.{setting_of}
use Rattle.delivery_report.specs.Report.{report_of}
use Rattle.delivery_report.specs.Tally.{brief_of}

-- how many commands a scenario has
abbrev pub commands_of : PlainScenario → ℕ
commands_of s = (tally_of s.actions).commands

abbrev pub report_text : PlainScenario → Record → List ℕ
report_text s r = report_of s.nodes (setting_of s) (commands_of s) r.entries r.skipped

abbrev pub summary_text : PlainScenario → Record → List ℕ
summary_text s r = brief_of (setting_of s) (commands_of s) r.entries r.skipped
