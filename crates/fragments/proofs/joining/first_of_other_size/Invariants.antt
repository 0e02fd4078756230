use Rattle.std.proofs.Common.{◌≡◌, drop}
use Rattle.fragments.specs.Joined.{first_from, has_other_size}
use Rattle.fragments.proofs.joining.first_of_other_size.Given as goal

abbrev pub invariant-loop-i : goal.invariant-loop-i
invariant-loop-i l = first_from (has_other_size l.size) l.i (drop l.i l.found) ≡ first_from (has_other_size l.size) 0 l.found
