use Rattle.std.proofs.Common.{ℕ, List, Some, None, IfOk, ap, ◌∙◌, subst}
use Rattle.overlay_rules.specs.State.{State}
use Rattle.overlay_rules.specs.Outcome.{Outcome}
use Rattle.node_parts.specs.Seen.{seen}
use Rattle.node_parts.specs.Plans.{Plans}
use Rattle.join_core.specs.Outcomes.{ended_by}
use Rattle.node_core.proofs.Rows.{was_denied}
use Rattle.node_core.proofs.joins.ending.on_deny.Goals as goal

pub returns-in-Some : goal.returns-in-Some
returns-in-Some c = λ known.
    let s : State = seen c.args.node.now known in
    subst (λ (o : Outcome). IfOk c.ended.result (λ p. Plans s p o))
    (ap (λ (ks : List ℕ). ended_by s ks c.args.from c.args.why (Some c.in-Some.halted)) (c.taught_by.ensures s)
    ∙ was_denied s c.args.from c.args.attempt c.args.why c.in_ok-joiner.joiner (Some c.in-Some.halted)
    (c.in_ok-joiner.ensures ∙ c.joiner.ensures) c.in-Some.ensures.answer)
    (c.ended.ensures s c.in_ok-joiner.joiner c.in-Some.ensures.joiner)

pub returns-in-None : goal.returns-in-None
returns-in-None c = λ known.
    let s : State = seen c.args.node.now known in
    subst (λ (o : Outcome). Plans s c.quiet.result o)
    (was_denied s c.args.from c.args.attempt c.args.why c.in_ok-joiner.joiner None (c.in_ok-joiner.ensures ∙ c.joiner.ensures) c.in-None.ensures.answer)
    (c.quiet.ensures s s (c.nothing.ensures s))
