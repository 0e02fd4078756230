use Rattle.std.proofs.Common.{◌≡◌, ℕ, List, take}
use Rattle.ring_math.specs.Sides.{learn_all}
use Rattle.lookup_core.specs.Kept.{StandsFor}
use Rattle.lookup_core.proofs.knowledge.Knowledge.learn_all.Given as goal

abbrev pub invariant-loop-id : goal.invariant-loop-id
invariant-loop-id l = record {
  me : l.self.leafs.me ≡ l.fn.self.leafs.me;
  stands : (known : List ℕ) → StandsFor l.fn.self known → StandsFor l.self (learn_all l.fn.self.leafs.me known (take l.id-index l.ids));
}
