use Rattle.std.proofs.Common.{ℕ, List, Option, Some, None, IfOk, sym, ap, ◌∙◌, subst}
use Rattle.overlay_rules.specs.State.{State}
use Rattle.overlay_rules.specs.Outcome.{Outcome}
use Rattle.node_parts.specs.Seen.{seen}
use Rattle.node_parts.specs.Plans.{Plans}
use Rattle.ring_math.specs.Sides.{learn_all, leaves}
use Rattle.leaf_set.specs.Leaves.{StandsFor}
use Rattle.join_core.specs.declared.joiner.Joiner.{Joiner}
use Rattle.join_core.specs.Probes.{after_reply}
use Rattle.node_core.specs.Asked.{probes_sent}
use Rattle.node_core.proofs.Rows.{was_replied}
use Rattle.node_core.proofs.joins.probing.welcomed.Goals as goal

pub returns-in-Some : goal.returns-in-Some
returns-in-Some c = λ known h.
    let s : State = seen c.args.node.now known in
    subst (λ (o : Outcome). IfOk c.probing.result (λ p. Plans s p o))
    (ap (λ (j : Joiner). probes_sent s j c.args.members.now c.in-Some.probes)
    (c.in_ok-answer.ensures.joiner ∙ ap (λ (x : Option (List ℕ)). after_reply x c.in_ok-joiner.joiner) c.in-Some.is)
    ∙ was_replied s c.args.attempt c.args.members.now c.in_ok-joiner.joiner c.in_ok-leaves.leaves (Some c.in-Some.probes)
    (c.in_ok-joiner.ensures ∙ c.joiner.ensures)
    (c.in_ok-leaves.ensures _ (subst (λ (xs : List ℕ). StandsFor c.leafs_after-leafs.result (learn_all s.me known xs)) c.as_slice.ensures.value
    (c.leafs_after-leafs.ensures.stands known h)) ∙ ap (λ m. leaves m (learn_all s.me known c.args.members.now)) c.leafs_after-leafs.ensures.me)
    (sym c.in-Some.is ∙ c.in_ok-answer.ensures.answer))
    (subst (λ (xs : List ℕ). IfOk c.probing.result (λ p. Plans s p (probes_sent s c.on_reply.new.self c.args.members.now xs))) c.as_slice-in-Some.ensures.value
    (c.probing.ensures s))

pub returns : goal.returns
returns c = λ known h.
    let s : State = seen c.args.node.now known in
    subst (λ (o : Outcome). Plans s c.quiet.result o)
    (was_replied s c.args.attempt c.args.members.now c.in_ok-joiner.joiner c.in_ok-leaves.leaves None (c.in_ok-joiner.ensures ∙ c.joiner.ensures)
    (c.in_ok-leaves.ensures _ (subst (λ (xs : List ℕ). StandsFor c.leafs_after-leafs.result (learn_all s.me known xs)) c.as_slice.ensures.value
    (c.leafs_after-leafs.ensures.stands known h)) ∙ ap (λ m. leaves m (learn_all s.me known c.args.members.now)) c.leafs_after-leafs.ensures.me)
    (sym c.in-None.is ∙ c.in_ok-answer.ensures.answer))
    (c.quiet.ensures s s (c.nothing.ensures s))
