use Rattle.std.proofs.Common.{◌≡◌, ◌<◌, ℕ, false, length, slice_index_or, take}
use Rattle.scribe_core.specs.Played.{was_delivered}
use Rattle.scribe_core.specs.Record.{sent_in}
use Rattle.group_report.proofs.counts.delivered_messages.Given as goal

-- what the entries so far delivered is marked
abbrev pub invariant-loop-place : goal.invariant-loop-place
invariant-loop-place l = record {
  sent : length l.marks.items ≡ length (sent_in l.steps);
  marked : (m : ℕ) → m < length l.marks.items → slice_index_or l.marks.items m false ≡ was_delivered (take l.place l.steps) m;
}
