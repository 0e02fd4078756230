-- What is left to compare decides.
use Rattle.std.proofs.Common.{◌≡◌, drop}
use Rattle.ring_math.specs.Bytewise.{same_bytes}
use Rattle.file_store.proofs.order.is_same.Given as goal

abbrev pub invariant-loop-i : goal.invariant-loop-i
invariant-loop-i l = same_bytes (drop l.i l.a-inside.0) (drop l.i l.b-inside.0) ≡ same_bytes l.a-inside.0 l.b-inside.0
