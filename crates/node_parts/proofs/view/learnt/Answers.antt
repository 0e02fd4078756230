use Rattle.std.proofs.Common.{ℕ, List, take, subst, ap, ◌∙◌}
use Rattle.ring_math.specs.Sides.{learn, learn_all}
use Rattle.leaf_set.specs.Leaves.{StandsFor}
use Rattle.lookup_core.proofs.Learning.{learn_all-next}
use Rattle.node_parts.proofs.view.learnt.Goals as goal

pub loop-id-preserved : goal.loop-id-preserved
loop-id-preserved c = record {
  me = c.learn-is_new.ensures.me ∙ c.loop-id.invariant.me;
  stands = λ known st.
      subst (λ (ks : List ℕ). StandsFor c.learn-is_new.new.self ks)
      (ap (λ m. learn m (learn_all c.copy-leafs.result.me known (take c.loop-id.id-index c.args.ids.now)) c.id-item.result) c.loop-id.invariant.me
      ∙ learn_all-next c.copy-leafs.result.me known c.args.ids.now c.loop-id.id-index c.id-item.result c.loop-id-test.true c.id-item.is)
      (c.learn-is_new.ensures.stands _ (c.loop-id.invariant.stands known st));
}
