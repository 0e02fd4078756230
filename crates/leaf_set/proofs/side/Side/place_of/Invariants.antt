use Rattle.std.proofs.Common.{◌≡◌, ◌≤◌, length, filter, nat_le, take}
use Rattle.ring_math.specs.Direction.{far}
use Rattle.leaf_set.proofs.side.Side.place_of.Given as goal

abbrev pub invariant-loop-other : goal.invariant-loop-other
invariant-loop-other l = record {
  value : l.count ≡ length (filter (λ y. nat_le (far l.me l.direction y) l.from_me) (take l.other-index l.other-items));
  limit : l.count ≤ l.other-index;
}
