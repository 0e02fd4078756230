use Rattle.std.proofs.Common.{take}
use Rattle.ring_math.proofs.Found.{Found}
use Rattle.leaf_set.proofs.Found.{better_in}
use Rattle.leaf_set.proofs.side.Side.best.Given as goal

abbrev pub invariant-loop-id : goal.invariant-loop-id
invariant-loop-id l = Found (better_in (take l.id-index l.id-items) l.key l.least l.than) l.key l.best
