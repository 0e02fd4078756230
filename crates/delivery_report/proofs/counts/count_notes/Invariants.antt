use Rattle.std.proofs.Common.{◌≡◌, ◌≤◌, take}
use Rattle.std.specs.List.{count_by}
use Rattle.delivery_report.specs.Report.{is_delivery, is_joining_note}
use Rattle.delivery_report.proofs.counts.count_notes.Given as goal

-- what the notes so far count
abbrev pub invariant-loop-note : goal.invariant-loop-note
invariant-loop-note l = record {
  deliveries : l.deliveries ≡ count_by is_delivery (take l.note-index l.notes);
  joinings : l.joinings ≡ count_by is_joining_note (take l.note-index l.notes);
  few_deliveries : l.deliveries ≤ l.note-index;
  few_joinings : l.joinings ≤ l.note-index;
}
