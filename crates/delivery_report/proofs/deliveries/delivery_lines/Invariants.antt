use Rattle.std.proofs.Common.{◌≡◌, ◌++◌, length, take, drop}
use Rattle.overlay_rules.specs.Record.{sent_in}
use Rattle.delivery_report.specs.Deliveries.{lines_after, delivery_lines}
use Rattle.delivery_report.proofs.deliveries.delivery_lines.Given as goal

-- how much was sent so far, and the lines so far and those still to come
abbrev pub invariant-loop-place : goal.invariant-loop-place
invariant-loop-place l = record {
  before : l.before ≡ length (sent_in (take l.place l.entries));
  lines : l.text ++ lines_after l.names (sent_in (take l.place l.entries)) (drop l.place l.entries) ≡ l.initial.text
      ++ delivery_lines l.names l.entries;
}
