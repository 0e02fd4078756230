use Rattle.std.proofs.Common.{◌≡◌, ◌++◌, drop}
use Rattle.fragments.specs.Large.{declared_from}
use Rattle.fragments.proofs.large.declare_fragments.Given as goal

abbrev pub invariant-loop-i : goal.invariant-loop-i
invariant-loop-i l = l.files.items ++ declared_from l.i (drop l.i l.fragments) ≡ l.fn.files.items ++ declared_from 0 l.fragments
