use Rattle.std.proofs.Common.{◌≡◌, drop}
use Rattle.fragments.specs.Joined.{first_from, is_missing}
use Rattle.fragments.proofs.joining.first_missing.Given as goal

abbrev pub invariant-loop-i : goal.invariant-loop-i
invariant-loop-i l = first_from is_missing l.i (drop l.i l.found) ≡ first_from is_missing 0 l.found
