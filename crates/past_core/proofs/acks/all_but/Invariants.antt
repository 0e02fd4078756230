use Rattle.std.proofs.Common.{◌≡◌, ◌≤◌, ◌==◌, not, length, filter, take}
use Rattle.past_core.proofs.acks.all_but.Given as goal

abbrev pub invariant-loop-other : goal.invariant-loop-other
invariant-loop-other l = record {
  value : l.others ≡ filter (λ y. not (y == l.id)) (take l.other-index l.other-items);
  limit : length l.others ≤ l.other-index;
}
