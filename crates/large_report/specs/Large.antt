-- What is written of a large scenario's record: the summary line, and what became of the pieces.
use Rattle.std.specs.Prelude.{ℕ, ◌+◌, ◌-◌, Bool, true, false, is_none, Option, Some, None, List, [], ◌∷◌, ◌++◌, codes, decimal, drop, length, map}
use Rattle.ring_math.specs.Names.{Content}
use Rattle.wire_msg.specs.declared.reply.Answer.{Answer}
use Rattle.overlay_rules.specs.declared.entry.Record.{Record}
use Rattle.scenario_reader.specs.Plain.{PlainScenario}
use Rattle.schedule.specs.Schedule.{setting_of}
use Rattle.delivery_report.specs.Answers.{found_by}
use Rattle.delivery_report.specs.Report.{closings_of, summary_of, summary_line}
use Rattle.delivery_report.specs.Tally.{tally_of}
use Rattle.delivery_report.specs.Texts.{commands_of}
use Rattle.fragments.specs.Joined.{join_fault}
use Rattle.fragments.specs.Pieces.{fragment_count}

-- what the last commands found, which fetch the index and then so many fragments
abbrev pub retrieved : ℕ → List (Option Answer) → List (Option Content)
retrieved fragments closings = map found_by (drop (length closings - (fragments + 1)) closings)

-- the index was found, and the fragments are joined without a fault
abbrev pub is_whole : List (Option Content) → Bool
is_whole [] = false
is_whole (None ∷ found) = false
is_whole (Some index ∷ found) = is_none (join_fault index found)

-- the size and how many fragments that makes, how many commands were answered Stored and Found, and whether the file is whole
abbrev pub size_text : ℕ → ℕ → List ℕ
size_text size fragments = codes "large size " ++ (decimal size ++ (codes " fragments " ++ decimal fragments))

abbrev pub answers_text : ℕ → ℕ → List ℕ
answers_text stored found = codes " stored " ++ (decimal stored ++ (codes " found " ++ decimal found))

abbrev pub whole_text : Bool → List ℕ
whole_text true = codes " whole yes\n"
whole_text false = codes " whole no\n"

abbrev pub counts_line : ℕ → ℕ → ℕ → ℕ → Bool → List ℕ
counts_line size fragments stored found whole = size_text size fragments ++ (answers_text stored found ++ whole_text whole)

abbrev pub large_line : ℕ → List (Option Answer) → List ℕ
large_line size closings =
    counts_line size (fragment_count size) (tally_of closings).stored (tally_of closings).found
    (is_whole (retrieved (fragment_count size) closings))

-- of a scenario with a file of so many bytes, and its record
abbrev pub large_text : PlainScenario → ℕ → Record → List ℕ
large_text s size r =
    summary_line (summary_of (setting_of s) r.entries r.skipped) ++ large_line size (closings_of (commands_of s) r.entries)
