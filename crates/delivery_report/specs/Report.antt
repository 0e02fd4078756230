-- The report of a scenario and a record: a line for each command, one for each delivery, and a summary.
use Rattle.std.specs.Prelude.{ℕ, zero, suc, ◌==◌, Bool, true, false, if◌then◌else◌, List, [], ◌∷◌, ◌++◌, length, count_by, Option, Some, None, codes, decimal}
use Rattle.std.specs.List.{list_any}
use Rattle.wire_msg.specs.declared.note.Note.{Note}
use Rattle.wire_msg.specs.declared.note.Note.TheVariants as note
use Rattle.wire_msg.specs.declared.reply.Answer.{Answer}
use Rattle.wire_msg.specs.declared.reply.Answer.TheVariants as answer
use Rattle.overlay_rules.specs.declared.entry.Entry.{Entry}
use Rattle.overlay_rules.specs.Record.{Setting, sent_in, run, world_at_start}
use Rattle.overlay_rules.specs.Played.{is_delivery_of}
use Rattle.overlay_rules.specs.Table.{notes_in}
use Rattle.step_facts.specs.ReadyCount.{ready_count}
use Rattle.scenario_reader.specs.declared.node.NodeLine.{NodeLine}
use Rattle.delivery_report.specs.declared.counts.Summary.{Summary}
use Rattle.delivery_report.specs.Answers.{closing_text}
use Rattle.delivery_report.specs.Deliveries.{delivery_lines}

-- how command n was closed: its first Closed note
abbrev pub closing_of : ℕ → List Note → Option Answer
closing_of n [] = None
closing_of n (note.Closed m a ∷ ns) = if m == n then Some a else closing_of n ns
closing_of n (note.Accepted file bytes ∷ ns) = closing_of n ns
closing_of n (note.Delivered origin m key hops ∷ ns) = closing_of n ns
closing_of n (note.Answered origin m r ∷ ns) = closing_of n ns
closing_of n (note.Reclaimed file ∷ ns) = closing_of n ns

abbrev pub command_line : List NodeLine → ℕ → Option Answer → List ℕ
command_line nodes n closing = decimal n ++ codes " " ++ closing_text nodes closing ++ codes "\n"

-- how each of so many commands was closed, from number n on
abbrev pub closings_from : List Note → ℕ → ℕ → List (Option Answer)
closings_from notes n zero = []
closings_from notes n (suc count) = closing_of n notes ∷ closings_from notes (suc n) count

-- how the commands 1, 2, up to so many were closed
abbrev pub closings_of : ℕ → List Entry → List (Option Answer)
closings_of commands es = closings_from (notes_in es) 1 commands

-- a line for each command, the first having number n
abbrev pub lines_from : List NodeLine → ℕ → List (Option Answer) → List ℕ
lines_from nodes n [] = []
lines_from nodes n (closing ∷ closings) = command_line nodes n closing ++ lines_from nodes (suc n) closings

abbrev pub command_lines : List NodeLine → ℕ → List Entry → List ℕ
command_lines nodes commands es = lines_from nodes 1 (closings_of commands es)

abbrev pub is_joined : Answer → Bool
is_joined (answer.Joined l r) = true
is_joined (answer.Reply r) = false
is_joined (answer.Denied node w) = false
is_joined (answer.Stopped node reason) = false
is_joined answer.GaveUp = false
is_joined answer.NothingToGiveUp = false

abbrev pub is_delivery : Note → Bool
is_delivery (note.Delivered origin number key hops) = true
is_delivery (note.Accepted file bytes) = false
is_delivery (note.Answered origin number r) = false
is_delivery (note.Closed number a) = false
is_delivery (note.Reclaimed file) = false

-- of so many messages, from number m on, those that no entry delivered
abbrev pub undelivered_among : List Entry → ℕ → ℕ → ℕ
undelivered_among es m zero = 0
undelivered_among es m (suc count) =
    if list_any (λ e. is_delivery_of m e.event) es then undelivered_among es (suc m) count else suc (undelivered_among es (suc m) count)

-- a node became ready: its join was closed
abbrev pub is_joining_note : Note → Bool
is_joining_note (note.Closed number a) = is_joined a
is_joining_note (note.Accepted file bytes) = false
is_joining_note (note.Delivered origin number key hops) = false
is_joining_note (note.Answered origin number r) = false
is_joining_note (note.Reclaimed file) = false

-- what the summary counts in a record with so many skips, after which so many nodes are ready
abbrev pub counts_of : List Entry → ℕ → ℕ → Summary
counts_of es skipped ready = record {
  entries = length es;
  sent = length (sent_in es);
  undelivered = undelivered_among es 0 (length (sent_in es));
  deliveries = count_by is_delivery (notes_in es);
  skipped = skipped;
  ready = ready;
}

abbrev pub summary_of : Setting → List Entry → ℕ → Summary
summary_of g es skipped = counts_of es skipped (ready_count g (run (world_at_start g) es))

abbrev pub summary_line : Summary → List ℕ
summary_line s =
    codes "summary entries " ++ decimal s.entries ++ codes " sent " ++ decimal s.sent ++ codes " undelivered " ++ decimal s.undelivered
    ++ codes " deliveries " ++ decimal s.deliveries ++ codes " skipped " ++ decimal s.skipped ++ codes " ready " ++ decimal s.ready ++ codes "\n"

-- the whole report, for nodes with names, a setting, a number of commands and a record
abbrev pub report_of : List NodeLine → Setting → ℕ → List Entry → ℕ → List ℕ
report_of nodes g commands es skipped =
    command_lines nodes commands es ++ delivery_lines nodes es ++ summary_line (summary_of g es skipped)
