use Rattle.std.proofs.Common.{◌≡◌, take}
use Rattle.fragments.specs.Joined.{joined}
use Rattle.fragments.proofs.joining.joined.Given as goal

abbrev pub invariant-loop-fragment : goal.invariant-loop-fragment
invariant-loop-fragment l = l.bytes.items ≡ joined (take l.fragment-index l.found)
