use Rattle.std.proofs.Common.{◌≡◌, ℕ, ◌<◌, false, length, take, get_or}
use Rattle.std.specs.List.{list_any}
use Rattle.overlay_rules.specs.Record.{sent_in}
use Rattle.overlay_rules.specs.Played.{is_delivery_of}
use Rattle.delivery_report.proofs.counts.delivered_messages.Given as goal

-- the marks say what the entries so far delivered
abbrev pub invariant-loop-place : goal.invariant-loop-place
invariant-loop-place l = record {
  sent : length l.marks.items ≡ length (sent_in l.entries);
  marked : (k : ℕ) → k < length l.marks.items → get_or l.marks.items k false ≡ list_any (λ e. is_delivery_of k e.event) (take l.place l.entries);
}
