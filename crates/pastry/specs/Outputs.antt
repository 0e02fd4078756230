-- What a mode writes of a scenario and its record.
use Rattle.std.specs.Prelude.{ℕ, List}
use Rattle.overlay_rules.specs.declared.entry.Record.{Record}
use Rattle.scenario_reader.specs.Plain.{PlainScenario}
use Rattle.schedule.specs.Schedule.{setting_of}
use Rattle.delivery_report.specs.Texts.{report_text, summary_text}
use Rattle.large_report.specs.Large.{large_text}
use Rattle.message_table.specs.Table.{table_text}
use Rattle.trace_text.specs.Traces.{trace_of, trace_text}
use Rattle.pastry.specs.declared.output.Output.{Output}
use Rattle.pastry.specs.declared.output.Output.TheVariants as output

-- a record as a trace, with the nodes and the founder of its scenario
abbrev pub played_trace : PlainScenario → Record → List ℕ
played_trace s r = trace_text (trace_of (setting_of s).nodes (setting_of s).founder r.entries r.skipped)

-- what happened as a table
abbrev pub played_table : PlainScenario → Record → List ℕ
played_table s r = table_text s r.entries

-- the report, the summary, the trace, or what became of a large file
abbrev pub output_text : Output → PlainScenario → Record → List ℕ
output_text output.Report s r = report_text s r
output_text output.Summary s r = summary_text s r
output_text output.Trace s r = played_trace s r
output_text (output.Large size) s r = large_text s size r
