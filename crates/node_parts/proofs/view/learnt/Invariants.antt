use Rattle.std.proofs.Common.{◌≡◌, ℕ, List, take}
use Rattle.ring_math.specs.Sides.{learn_all}
use Rattle.leaf_set.specs.Leaves.{StandsFor}
use Rattle.node_parts.proofs.view.learnt.Given as goal

abbrev pub invariant-loop-id : goal.invariant-loop-id
invariant-loop-id l = record {
  me : l.leafs.me ≡ l.initial.leafs.me;
  stands : (known : List ℕ) → StandsFor l.initial.leafs known → StandsFor l.leafs (learn_all l.initial.leafs.me known (take l.id-index l.ids));
}
