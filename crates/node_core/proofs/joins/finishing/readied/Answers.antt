use Rattle.std.proofs.Common.{◌∷◌, [], List, IfOk, subst}
use Rattle.overlay_rules.specs.State.{State}
use Rattle.overlay_rules.specs.State as phase
use Rattle.overlay_rules.specs.Outcome.{Sent, becomes}
use Rattle.node_parts.specs.Seen.{seen}
use Rattle.node_parts.specs.Plans.{Plans}
use Rattle.wire_msg.specs.declared.note.Note.TheVariants as note
use Rattle.wire_msg.specs.declared.reply.Answer.TheVariants as answer
use Rattle.node_parts.specs.Change.{files_after}
use Rattle.node_core.proofs.joins.finishing.readied.Goals as goal

pub returns : goal.returns
returns c = λ known h.
    let s : State = seen c.args.node.now known in
    let a = c.args.attempt in
    let t : State = record s { phase = phase.Ready a c.args.left c.args.right; files = files_after c.args.store s.files } in
    subst (λ (ms : List Sent). IfOk c.closing.result (λ p. Plans s p (becomes t ms (note.Closed c.args.number (answer.Joined c.args.left c.args.right) ∷ []))))
    (c.in_ok-messages.ensures known h)
    (c.closing.ensures s t (c.in_ok-change.ensures s))
