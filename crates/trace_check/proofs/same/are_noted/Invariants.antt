use Rattle.std.proofs.Common.{◌≡◌, length, take}
use Rattle.trace_check.proofs.same.are_noted.Given as goal

-- those so far are the same
abbrev pub invariant-loop-place : goal.invariant-loop-place
invariant-loop-place l = record {
  long : length l.one ≡ length l.other;
  same : take l.place l.one ≡ take l.place l.other;
}
