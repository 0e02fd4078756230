use Rattle.std.proofs.Common.{◌≡◌, ◌∙◌, List, Bool, ap, arith, count_by, length, not, refl}
use Rattle.scribe_core.specs.declared.note.GroupNote.{GroupNote}
use Rattle.scribe_core.specs.Record.{notes_in, sent_in}
use Rattle.group_report.specs.Counts.{is_hearing, undelivered_among}
use Rattle.group_report.proofs.Counting.{all_undelivered}
use Rattle.group_report.proofs.counts.counts_of.Goals as goal

pub returns : goal.returns
returns c =
    let es = c.args.steps.now in
    let sent : c.len-2.result ≡ length (sent_in es) = omega (arith, c.len-2.ensures, c.in_ok-delivered.ensures.sent, c.in_ok-delivered.delivered.ok.0) in
    let undelivered : c.unmarked.result ≡ undelivered_among es 0 (length (sent_in es)) =
    c.unmarked.ensures ∙ ap (λ (marks : List Bool). count_by not marks) c.deref.ensures.value
    ∙ all_undelivered es c.in_ok-delivered.delivered.items c.in_ok-delivered.ensures.sent c.in_ok-delivered.ensures.marked in
    let heard : c.hearings_in.result ≡ count_by is_hearing (notes_in es) =
    c.hearings_in.ensures ∙ ap (λ (ns : List GroupNote). count_by is_hearing ns) c.notes.ensures in
    rw (c.len.ensures, sent, undelivered, heard) refl
