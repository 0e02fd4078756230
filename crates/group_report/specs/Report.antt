-- The report of a script and its group record.
use Rattle.std.specs.Prelude.{ℕ, List, ◌++◌}
use Rattle.scribe_core.specs.Entry.{GroupEntry}
use Rattle.scribe_core.specs.Record.{notes_in}
use Rattle.group_reader.specs.Plain.{PlainScript}
use Rattle.group_report.specs.Answers.{answer_lines}
use Rattle.group_report.specs.Counts.{counts_of, summary_line}
use Rattle.group_report.specs.Hearings.{hearing_lines}

abbrev pub groups_text : PlainScript → List GroupEntry → List ℕ
groups_text s es = answer_lines s.actions (notes_in es) ++ hearing_lines s.scenario.nodes es ++ summary_line (counts_of es)
