use Rattle.std.proofs.Common.{◌≡◌, ◌^◌, ◌<◌, drop}
use Rattle.std.specs.Str.Parse.{digits_value, digits_value_after}
use Rattle.scenario_reader.proofs.spelling.number.Given as goal

-- the digits still to come make of the value so far that of the whole
abbrev pub invariant-loop-digit : goal.invariant-loop-digit
invariant-loop-digit l = record {
  small : l.value < 2 ^ 64;
  whole : digits_value_after 10 l.value (drop l.digit-index l.text) ≡ digits_value 10 l.text;
}
