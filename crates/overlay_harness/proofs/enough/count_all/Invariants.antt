use Rattle.std.proofs.Common.{ℕ, [], take}
use Rattle.overlay_rules.specs.Record.{sent_in}
use Rattle.overlay_harness.specs.Enough.{AreCountedDown, AreLeftOf}
use Rattle.overlay_harness.proofs.enough.count_all.Given as goal

-- the entries so far are counted down
abbrev pub invariant-loop-place : goal.invariant-loop-place
invariant-loop-place l = record {
  counted : AreCountedDown l.fn.left (sent_in l.entries) (take l.place l.entries) l.left;
  left : (copies : ℕ) → AreLeftOf copies [] l.fn.left → AreLeftOf copies (take l.place l.entries) l.left;
}
