use Rattle.std.proofs.Common.{IfOk, length, sym, ap, ◌∙◌, subst}
use Rattle.overlay_rules.specs.State.{State}
use Rattle.overlay_rules.specs.Outcome.{Outcome}
use Rattle.past_core.specs.Acks.{acked, IsWithin}
use Rattle.node_parts.specs.Seen.{seen}
use Rattle.node_parts.specs.Plans.{Plans}
use Rattle.node_core.proofs.files.replicas.on_replica_ack.Goals as goal

pub returns-in-Unknown : goal.returns-in-Unknown
returns-in-Unknown c = λ known h.
    let s : State = seen c.args.node.now known in
    subst (λ (o : Outcome). Plans s c.quiet.result o) (sym (c.in_ok-ack.ensures.row s ∙ ap (acked s c.args.origin c.args.number) c.in-Unknown.is))
    (c.quiet.ensures s s (c.nothing.ensures s))

pub returns-in_ok-change-in-Heard : goal.returns-in_ok-change-in-Heard
returns-in_ok-change-in-Heard c = λ known h.
    let s : State = seen c.args.node.now known in
    subst (λ (o : Outcome). Plans s c.quiet-in-Heard.result o) (sym (c.in_ok-ack.ensures.row s ∙ ap (acked s c.args.origin c.args.number) c.in-Heard.is))
    (c.quiet-in-Heard.ensures s _ (c.in_ok-change-in-Heard.ensures s))

pub stored-requires : goal.stored-requires
stored-requires c = subst (IsWithin (length c.args.node.now.past.asks)) c.in-Last.is c.in_ok-ack.ensures.within

pub returns-in-Last : goal.returns-in-Last
returns-in-Last c = λ known h.
    let s : State = seen c.args.node.now known in
    subst (λ (o : Outcome). IfOk c.stored.result (λ p. Plans s p o)) (sym (c.in_ok-ack.ensures.row s ∙ ap (acked s c.args.origin c.args.number) c.in-Last.is))
    (c.stored.ensures known h)
