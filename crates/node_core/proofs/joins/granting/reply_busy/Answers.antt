use Rattle.std.proofs.Common.{◌≡◌, ◌++◌, OnOk, List, filter, sym, ap, ◌∙◌, subst}
use Rattle.overlay_rules.specs.Outcome.{Outcome}
use Rattle.overlay_rules.specs.Gatekeeper.{is_left_to}
use Rattle.overlay_rules.specs.declared.request.Pending.{Pending}
use Rattle.past_core.specs.Replied.{replied_asks}
use Rattle.past_core.proofs.Replied.{replied-asks}
use Rattle.wire_msg.specs.declared.reply.Reply.{Reply}
use Rattle.wire_msg.specs.declared.reply.Reply.TheVariants as reply
use Rattle.node_core.proofs.joins.granting.reply_busy.Goals as goal

pub returns-clause-messages : goal.returns-clause-messages
returns-clause-messages c = λ s.
    let busy : Reply = reply.Busy c.args.node.now.me c.args.joiner in
    let asks : List Pending = filter (is_left_to c.args.reach.now c.args.joiner) c.args.node.now.past.asks in
    subst (λ (o : Outcome). OnOk c.reply_each.result (c.reply_each.new.messages ≡ c.args.messages.now ++ o.sends))
    (ap (replied_asks s busy) c.in_ok-asks.ensures.asks ∙ sym (replied-asks s busy asks))
    (c.reply_each.ensures.messages s)

pub returns-clause-notes : goal.returns-clause-notes
returns-clause-notes c = λ s.
    let busy : Reply = reply.Busy c.args.node.now.me c.args.joiner in
    let asks : List Pending = filter (is_left_to c.args.reach.now c.args.joiner) c.args.node.now.past.asks in
    subst (λ (o : Outcome). OnOk c.reply_each.result (c.reply_each.new.notes ≡ c.args.notes.now ++ o.notes))
    (ap (replied_asks s busy) c.in_ok-asks.ensures.asks ∙ sym (replied-asks s busy asks))
    (c.reply_each.ensures.notes s)
