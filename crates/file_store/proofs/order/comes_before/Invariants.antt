-- What is left to compare decides.
use Rattle.std.proofs.Common.{◌≡◌, drop}
use Rattle.ring_math.specs.Bytewise.{is_before}
use Rattle.file_store.proofs.order.comes_before.Given as goal

abbrev pub invariant-loop-i : goal.invariant-loop-i
invariant-loop-i l = is_before (drop l.i l.a-inside.0) (drop l.i l.b-inside.0) ≡ is_before l.a-inside.0 l.b-inside.0
