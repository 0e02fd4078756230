use Rattle.std.proofs.Common.{take}
use Rattle.std.specs.List.{flat_map}
use Rattle.trace_text.specs.Traces.{entry_lines}
use Rattle.trace_text.specs.Writing.{WritesLines}
use Rattle.trace_text.proofs.writer.put_entries.Given as goal

abbrev pub invariant-loop-place : goal.invariant-loop-place
invariant-loop-place l = WritesLines l.initial.text l.text (flat_map entry_lines (take l.place l.entries))
