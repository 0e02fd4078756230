use Rattle.std.proofs.Common.{◌∷◌, [], List, IfOk, subst}
use Rattle.overlay_rules.specs.State.{State}
use Rattle.overlay_rules.specs.Outcome.{Sent, becomes}
use Rattle.node_parts.specs.Seen.{seen}
use Rattle.node_parts.specs.Plans.{Plans}
use Rattle.wire_msg.specs.declared.note.Note.TheVariants as note
use Rattle.wire_msg.specs.declared.reply.Answer.TheVariants as answer
use Rattle.node_core.proofs.joins.asking.stopped.Goals as goal

pub returns : goal.returns
returns c = λ known.
    let s : State = seen c.args.node.now known in
    subst (λ (ms : List Sent). IfOk c.closing.result (λ p. Plans s p (becomes s ms (note.Closed c.args.number (answer.Stopped s.me c.args.own) ∷ []))))
    c.new.ensures (c.closing.ensures s s (c.nothing.ensures s))
