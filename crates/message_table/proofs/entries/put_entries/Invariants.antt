use Rattle.std.proofs.Common.{◌≡◌, ◌++◌, ◌+◌, [], length, take, drop}
use Rattle.overlay_rules.specs.Record.{sent_in}
use Rattle.message_table.specs.Entries.{entries_text}
use Rattle.message_table.proofs.entries.put_entries.Given as goal

-- how much was sent so far, and the lines so far and those still to come
abbrev pub invariant-loop-place : goal.invariant-loop-place
invariant-loop-place l = record {
  before : l.before ≡ length (sent_in (take l.place l.entries));
  lines : l.text ++ entries_text l.labels (l.place + 1) (sent_in (take l.place l.entries)) (drop l.place l.entries) ≡ l.initial.text
      ++ entries_text l.labels 1 [] l.entries;
}
