-- What a group record comes to.
use Rattle.std.specs.Prelude.{ℕ, zero, suc, Bool, true, false, if◌then◌else◌, List, ◌++◌, length, count_by, codes, decimal}
use Rattle.scribe_core.specs.Entry.{GroupEntry}
use Rattle.scribe_core.specs.declared.note.GroupNote.{GroupNote}
use Rattle.scribe_core.specs.declared.note.GroupNote.TheVariants as note
use Rattle.scribe_core.specs.Played.{was_delivered}
use Rattle.scribe_core.specs.Record.{notes_in, sent_in}
use Rattle.group_report.specs.declared.counts.Counts.{Counts}

-- of so many messages, from number m on, those that no entry delivered
abbrev pub undelivered_among : List GroupEntry → ℕ → ℕ → ℕ
undelivered_among es m zero = 0
undelivered_among es m (suc count) =
    if was_delivered es m then undelivered_among es (suc m) count else suc (undelivered_among es (suc m) count)

abbrev pub is_hearing : GroupNote → Bool
is_hearing (note.Heard name n bytes) = true
is_hearing (note.Subscribed n) = false
is_hearing (note.Left n) = false
is_hearing (note.Published n) = false
is_hearing (note.Refused n) = false

abbrev pub counts_of : List GroupEntry → Counts
counts_of es = record {
  entries = length es;
  sent = length (sent_in es);
  undelivered = undelivered_among es 0 (length (sent_in es));
  heard = count_by is_hearing (notes_in es);
}

abbrev pub summary_line : Counts → List ℕ
summary_line c =
    codes "groups entries " ++ decimal c.entries ++ codes " sent " ++ decimal c.sent ++ codes " undelivered " ++ decimal c.undelivered
    ++ codes " heard " ++ decimal c.heard ++ codes "\n"
