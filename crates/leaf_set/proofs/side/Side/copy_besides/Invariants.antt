use Rattle.std.proofs.Common.{◌≡◌, ◌≤◌, ◌+◌, ◌++◌, length, filter, not, take}
use Rattle.ring_math.specs.declared.limits.TheConstants.{LEAVES_PER_SIDE}
use Rattle.ring_math.specs.Sides.{is_in}
use Rattle.leaf_set.proofs.side.Side.copy_besides.Given as goal

abbrev pub invariant-loop-id : goal.invariant-loop-id
invariant-loop-id l = record {
  value : l.out ≡ l.fn.out ++ filter (λ y. not (is_in l.other y)) (take l.id-index l.id-items);
  limit : length l.out ≤ LEAVES_PER_SIDE + 1 + l.id-index;
}
