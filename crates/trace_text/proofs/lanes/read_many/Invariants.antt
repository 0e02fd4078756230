use Rattle.std.proofs.Common.{◌+◌, ◌*◌, ◌-◌, ◌≡◌, ◌<◌, length, take}
use Rattle.trace_text.specs.Digits.{AreDigitsOf}
use Rattle.trace_text.proofs.lanes.read_many.Given as goal

-- the digits before the place were read
abbrev pub invariant-loop-place : goal.invariant-loop-place
invariant-loop-place l = record {
  size : length l.bytes ≡ length l.initial.bytes;
  within : l.place < l.last + 16;
  read : AreDigitsOf (take (2 * l.place) l.text) (take l.place l.bytes);
}

abbrev pub decreases-loop-place : goal.decreases-loop-place
decreases-loop-place l = l.last + 16 - l.place
