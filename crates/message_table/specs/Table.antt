-- The table of a scenario and its record.
use Rattle.std.specs.Prelude.{ℕ, List, [], ◌++◌}
use Rattle.overlay_rules.specs.declared.entry.Entry.{Entry}
use Rattle.overlay_rules.specs.Record.{run, world_at_start}
use Rattle.scenario_reader.specs.Plain.{PlainScenario}
use Rattle.schedule.specs.Schedule.{setting_of}
use Rattle.message_table.specs.Ends.{heads_text, ends_text}
use Rattle.message_table.specs.Entries.{entries_text}

abbrev pub table_text : PlainScenario → List Entry → List ℕ
table_text s es = heads_text s ++ entries_text s 1 [] es ++ ends_text s (run (world_at_start (setting_of s)) es).states
