use Rattle.std.proofs.Common.{IfOk, ap, ◌∙◌, subst}
use Rattle.overlay_rules.specs.State.{State}
use Rattle.overlay_rules.specs.State as phase
use Rattle.overlay_rules.specs.Outcome.{Outcome}
use Rattle.node_parts.specs.Seen.{seen}
use Rattle.node_parts.specs.Plans.{Plans}
use Rattle.join_core.specs.declared.joiner.Joiner.{Joiner}
use Rattle.join_core.specs.declared.steps.Begin.TheVariants as begin
use Rattle.node_parts.specs.Seats.{phase_to}
use Rattle.node_core.proofs.Rows.{began}
use Rattle.node_core.proofs.joins.asking.on_join.Goals as goal

pub returns-in_ok-change-in-Started : goal.returns-in_ok-change-in-Started
returns-in_ok-change-in-Started c = λ known.
    let s : State = seen c.args.node.now known in
    subst (λ (o : Outcome). IfOk c.sending.result (λ p. Plans s p o))
    (began s c.args.number c.args.via c.in_ok-joiner.joiner (begin.Started c.in-Started.attempt)
    (c.in_ok-joiner.ensures ∙ c.joiner.ensures) c.in-Started.ensures.answer)
    (c.sending.ensures s (record s { phase = phase.Asking c.in-Started.attempt c.args.number })
    (c.in_ok-change-in-Started.ensures s ∙ ap (λ (j : Joiner). record s { phase = phase_to j s.phase }) c.in-Started.ensures.joiner))

pub returns-in-Already : goal.returns-in-Already
returns-in-Already c = λ known.
    let s : State = seen c.args.node.now known in
    subst (λ (o : Outcome). IfOk c.stopped.result (λ p. Plans s p o))
    (began s c.args.number c.args.via c.in_ok-joiner.joiner begin.Already (c.in_ok-joiner.ensures ∙ c.joiner.ensures) c.in-Already.ensures.answer)
    (c.stopped.ensures known)

pub returns-in-Spent : goal.returns-in-Spent
returns-in-Spent c = λ known.
    let s : State = seen c.args.node.now known in
    subst (λ (o : Outcome). IfOk c.stopped-in-Spent.result (λ p. Plans s p o))
    (began s c.args.number c.args.via c.in_ok-joiner.joiner begin.Spent (c.in_ok-joiner.ensures ∙ c.joiner.ensures) c.in-Spent.ensures.answer)
    (c.stopped-in-Spent.ensures known)
