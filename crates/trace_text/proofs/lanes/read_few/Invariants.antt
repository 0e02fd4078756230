use Rattle.std.proofs.Common.{◌≡◌, ◌*◌, ◌<◌, true, take}
use Rattle.std.specs.List.{list_all}
use Rattle.trace_text.specs.Digits.{is_lower_digit, AreDigitsOf}
use Rattle.trace_text.proofs.lanes.read_few.Given as goal

abbrev pub invariant-loop-place : goal.invariant-loop-place
invariant-loop-place l = record {
  read : l.greatest < 16 → AreDigitsOf (take (2 * l.place) l.text) (take l.place l.bytes);
  lower : list_all is_lower_digit l.text ≡ true → l.greatest < 16;
}
