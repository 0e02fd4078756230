-- The parts of an entry by their words.
use Rattle.std.specs.Prelude.{ℕ, List, codes}
use Rattle.trace_check.specs.declared.verdict.Part.{Part}
use Rattle.trace_check.specs.declared.verdict.Part.TheVariants as part

abbrev pub part_word : Part → List ℕ
part_word part.Event = codes "event"
part_word part.Sent = codes "sent"
part_word part.Notes = codes "notes"
