use Rattle.std.proofs.Common.{◌++◌, List, IfOk, sym, ap, ◌∙◌, subst}
use Rattle.wire_msg.specs.declared.note.Note.{Note}
use Rattle.wire_msg.specs.declared.reply.Reply.TheVariants as reply
use Rattle.overlay_rules.specs.State.{State}
use Rattle.overlay_rules.specs.Outcome.{Outcome, Sent}
use Rattle.past_core.specs.Replied.{replied_asks}
use Rattle.past_core.specs.Reclaims.{after_reclaim}
use Rattle.node_parts.specs.Change.{waited}
use Rattle.node_parts.specs.Seen.{seen}
use Rattle.node_parts.specs.Plans.{Plans}
use Rattle.node_core.proofs.Storing.{entry-buried}
use Rattle.node_core.proofs.Reclaims.{me-after, reclaim-outcome}
use Rattle.node_core.proofs.files.reclaim.reclaim_here.Goals as goal

pub returns : goal.returns
returns c = λ known h.
    let s : State = seen c.args.node.now known in
    let now : State = waited c.args.request.now.wait s in
    let step = c.in_ok-step.step in
    let t : State = after_reclaim now c.args.file.now step.what in
    let gone = reply.Gone c.args.node.now.me in
    subst (λ (o : Outcome). IfOk c.and_replied.result (λ p. Plans s p o))
    (sym (c.in_ok-step.ensures.row now c.args.request.now.origin c.args.request.now.number))
    (reclaim-outcome (λ (o : Outcome). IfOk c.and_replied.result (λ p. Plans s p o)) t c.args.node.now.me c.args.request.now.origin c.args.request.now.number
    c.args.file.now step
    _ _ _ (me-after now c.args.file.now step.what)
    (c.in_ok-reply_each.ensures.messages t ∙ ap (λ (ms : List Sent). ms ++ (replied_asks t gone step.ended).sends) c.new-messages.ensures)
    (c.in_ok-reply_each.ensures.notes t ∙ ap (λ (ns : List Note). ns ++ (replied_asks t gone step.ended).notes) c.in_ok-notes.ensures)
    c.reply_of.ensures
    (c.and_replied.ensures s t (c.in_ok-change.ensures s (λ e. entry-buried c.args.node.now.store.files c.args.file.now (c.in_ok-step.ensures.held e)))))
