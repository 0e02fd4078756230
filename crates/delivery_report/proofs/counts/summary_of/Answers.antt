use Rattle.std.proofs.Common.{rules, ◌≡◌, ◌+◌, length, sym, add_comm, ◌∙◌, ap, not, zero-add, arith, refl}
use Rattle.std.specs.List.{list_any, count_by}
use Rattle.overlay_rules.specs.Record.{sent_in, run, world_at_start}
use Rattle.overlay_rules.specs.Played.{is_delivery_of}
use Rattle.overlay_rules.specs.Table.{notes_in}
use Rattle.step_facts.specs.ReadyCount.{ready_count}
use Rattle.delivery_report.specs.Report.{undelivered_among, is_delivery, is_joining_note}
use Rattle.delivery_report.proofs.Joins.{ready-joinings}
use Rattle.delivery_report.proofs.Marks.{undelivered-by_marks}
use Rattle.delivery_report.proofs.counts.summary_of.Goals as goal

pub returns : goal.returns
returns c g legal =
    let es = c.args.steps.now.entries in
    let marks = c.in_ok-delivered.delivered.items in
    let sent : length marks ≡ length (sent_in es) = c.in_ok-delivered.ensures.sent in
    let marked = undelivered-by_marks es marks 0
    (λ k within. c.in_ok-delivered.ensures.marked k within ∙ ap (λ n. list_any (λ e. is_delivery_of n e.event) es) (sym (zero-add k))) in
    let undelivered : c.count_unset.result ≡ undelivered_among es 0 (length (sent_in es)) =
    c.count_unset.ensures ∙ ap (count_by not) c.deref.ensures.value ∙ marked ∙ ap (undelivered_among es 0) sent in
    let count : c.len-2.result ≡ length (sent_in es) = omega (arith, c.len-2.ensures, sent) in
    let deliveries : c.count_notes-noted.result.deliveries ≡ count_by is_delivery (notes_in es) =
    c.count_notes-noted.ensures.deliveries ∙ ap (count_by is_delivery) c.notes.ensures in
    let joinings : c.count_notes-noted.result.joinings ≡ count_by is_joining_note (notes_in es) =
    c.count_notes-noted.ensures.joinings ∙ ap (count_by is_joining_note) c.notes.ensures in
    let one_more : c.in_ok-ready.ready ≡ c.count_notes-noted.result.joinings + 1 = search rules in
    let ready : c.in_ok-ready.ready ≡ ready_count g (run (world_at_start g) es) =
    one_more ∙ ap (λ n. n + 1) joinings ∙ add_comm _ 1 ∙ sym (ready-joinings g es legal) in
    rw (c.len.ensures, count, undelivered, deliveries, ready) refl
