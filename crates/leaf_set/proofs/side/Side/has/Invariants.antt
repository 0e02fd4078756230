use Rattle.std.proofs.Common.{◌≡◌, take}
use Rattle.ring_math.specs.Sides.{is_in}
use Rattle.leaf_set.proofs.side.Side.has.Given as goal

abbrev pub invariant-loop-other : goal.invariant-loop-other
invariant-loop-other l = l.is_there ≡ is_in (take l.other-index l.other-items) l.id
