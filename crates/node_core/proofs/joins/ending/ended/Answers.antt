use Rattle.std.proofs.Common.{◌∷◌, [], List, IfOk, ap, ◌∙◌, subst}
use Rattle.overlay_rules.specs.State.{State}
use Rattle.overlay_rules.specs.State as phase
use Rattle.overlay_rules.specs.Outcome.{Sent, becomes}
use Rattle.node_parts.specs.Plans.{Plans}
use Rattle.std.proofs.Common.{◌+◌}
use Rattle.wire_msg.specs.declared.note.Note.TheVariants as note
use Rattle.wire_msg.specs.declared.reply.Answer.TheVariants as answer
use Rattle.join_core.specs.declared.joiner.Joiner.{Joiner}
use Rattle.join_core.specs.declared.steps.Halted.{Halted}
use Rattle.node_parts.specs.Change.{known_after}
use Rattle.node_parts.specs.Seats.{phase_to}
use Rattle.node_core.proofs.joins.ending.ended.Goals as goal

pub returns : goal.returns
returns c = λ s old e.
    let h : Halted = c.args.halted.now in
    let t : State = record s { phase = phase.Waiting (h.attempt + 1); known = known_after s.me c.args.learn s.known } in
    subst (λ (ms : List Sent). IfOk c.closing.result (λ p. Plans s p (becomes t ms (note.Closed h.number (answer.Denied c.args.from c.args.why) ∷ []))))
    c.in_ok-messages.ensures
    (c.closing.ensures s t (c.in_ok-change.ensures s
    ∙ ap (λ (j : Joiner). record s { phase = phase_to j s.phase; known = known_after s.me c.args.learn s.known }) e))
