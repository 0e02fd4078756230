use Rattle.std.proofs.Common.{Some, None, IfOk, ◌∙◌, subst}
use Rattle.overlay_rules.specs.State.{State}
use Rattle.overlay_rules.specs.Outcome.{Outcome}
use Rattle.node_parts.specs.Seen.{seen}
use Rattle.node_parts.specs.Plans.{Plans}
use Rattle.node_core.proofs.Rows.{was_refused}
use Rattle.node_core.proofs.joins.ending.on_join_refuse.Goals as goal

pub returns-in-Some : goal.returns-in-Some
returns-in-Some c = λ known.
    let s : State = seen c.args.node.now known in
    subst (λ (o : Outcome). IfOk c.ended.result (λ p. Plans s p o))
    (was_refused s c.args.from c.args.attempt c.args.why c.in_ok-joiner.joiner (Some c.in-Some.halted)
    (c.in_ok-joiner.ensures ∙ c.joiner.ensures) c.in-Some.ensures.answer)
    (c.ended.ensures s c.in_ok-joiner.joiner c.in-Some.ensures.joiner)

pub returns-in-None : goal.returns-in-None
returns-in-None c = λ known.
    let s : State = seen c.args.node.now known in
    subst (λ (o : Outcome). Plans s c.quiet.result o)
    (was_refused s c.args.from c.args.attempt c.args.why c.in_ok-joiner.joiner None (c.in_ok-joiner.ensures ∙ c.joiner.ensures) c.in-None.ensures.answer)
    (c.quiet.ensures s s (c.nothing.ensures s))
