use Rattle.std.proofs.Common.{◌≡◌, ◌≤◌, ◌+◌, ◌∷◌, length, take}
use Rattle.node_core.proofs.files.replicas.holders_of.Given as goal

abbrev pub invariant-loop-target : goal.invariant-loop-target
invariant-loop-target l = record {
  value : l.holders ≡ l.fn.me ∷ take l.target-index l.target-items;
  limit : length l.holders ≤ l.target-index + 1;
}
