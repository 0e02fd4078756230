use Rattle.std.proofs.Common.{◌∷◌, [], List, Some, None, IfOk, ◌∙◌, subst}
use Rattle.overlay_rules.specs.State.{State}
use Rattle.overlay_rules.specs.Outcome.{Outcome, Sent, becomes}
use Rattle.node_parts.specs.Seen.{seen}
use Rattle.node_parts.specs.Plans.{Plans}
use Rattle.wire_msg.specs.declared.note.Note.TheVariants as note
use Rattle.wire_msg.specs.declared.reply.Answer.TheVariants as answer
use Rattle.node_core.proofs.Rows.{gave_up}
use Rattle.node_core.proofs.joins.ending.on_give_up.Goals as goal

pub returns-in-Some : goal.returns-in-Some
returns-in-Some c = λ known.
    let s : State = seen c.args.node.now known in
    subst (λ (o : Outcome). IfOk c.given_up.result (λ p. Plans s p o))
    (gave_up s c.args.number c.in_ok-joiner.joiner (Some c.in-Some.halted) (c.in_ok-joiner.ensures ∙ c.joiner.ensures) c.in-Some.ensures.answer)
    (c.given_up.ensures known c.in_ok-joiner.joiner c.in-Some.ensures.joiner)

pub returns-in-None : goal.returns-in-None
returns-in-None c = λ known.
    let s : State = seen c.args.node.now known in
    subst (λ (o : Outcome). IfOk c.closing.result (λ p. Plans s p o))
    (gave_up s c.args.number c.in_ok-joiner.joiner None (c.in_ok-joiner.ensures ∙ c.joiner.ensures) c.in-None.ensures.answer)
    (subst (λ (ms : List Sent). IfOk c.closing.result (λ p. Plans s p (becomes s ms (note.Closed c.args.number answer.NothingToGiveUp ∷ []))))
    c.new.ensures (c.closing.ensures s s (c.nothing.ensures s)))
