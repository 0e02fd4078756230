use Rattle.std.proofs.Common.{◌++◌, ◌∷◌, [], Bool, List, ℕ, sym, ap, ◌∙◌}
use Rattle.overlay_rules.specs.Joining.{unanswered}
use Rattle.join_core.proofs.Listed.{map_more}
use Rattle.join_core.proofs.probed.Probed.unanswered.Goals as goal

pub loop-id-preserved : goal.loop-id-preserved
loop-id-preserved c = c.in_ok-push.ensures.items ∙ ap (λ (xs : List (ℕ × Bool)). xs ++ unanswered c.id-item.result ∷ []) c.loop-id.invariant
    ∙ sym (map_more unanswered c.args.ids.now c.loop-id.id-index c.id-item.result c.loop-id-test.true c.id-item.is)
