use Rattle.std.proofs.Common.{◌∷◌, [], IfOk, subst}
use Rattle.overlay_rules.specs.State.{State}
use Rattle.overlay_rules.specs.Outcome.{becomes, sent}
use Rattle.node_parts.specs.Seen.{seen}
use Rattle.node_parts.specs.Plans.{Plans}
use Rattle.wire_msg.specs.Words.{JoinRequest}
use Rattle.overlay_rules.specs.declared.request.Way.{Way}
use Rattle.overlay_rules.specs.Routed.{join_request_by}
use Rattle.node_parts.specs.declared.change.Wait.TheVariants as waiting
use Rattle.node_core.proofs.joins.asking.on_join_request.Goals as goal

pub returns-in-NotReady : goal.returns-in-NotReady
returns-in-NotReady c = λ known h.
    let s : State = seen c.args.node.now known in
    subst (λ (w : Way). IfOk c.refused.result (λ p. Plans s p (join_request_by s c.args.joiner c.args.attempt c.args.hops w)))
    (c.in-NotReady.ensures known waiting.Keep h) (c.refused.ensures s)

pub returns-in-Here : goal.returns-in-Here
returns-in-Here c = λ known h.
    let s : State = seen c.args.node.now known in
    subst (λ (w : Way). IfOk c.welcomed.result (λ p. Plans s p (join_request_by s c.args.joiner c.args.attempt c.args.hops w)))
    (c.in-Here.ensures known waiting.Keep h) (c.welcomed.ensures known h)

pub returns-in-To : goal.returns-in-To
returns-in-To c = λ known h.
    let s : State = seen c.args.node.now known in
    subst (λ (w : Way). IfOk c.sending.result (λ p. Plans s p (join_request_by s c.args.joiner c.args.attempt c.args.hops w)))
    (c.in-To.ensures known waiting.Keep h)
    (subst (λ m. IfOk c.sending.result (λ p. Plans s p (becomes s (sent c.in-To.next (JoinRequest c.args.joiner c.args.attempt m) ∷ []) [])))
    c.one_more.ensures (c.sending.ensures s s (c.nothing.ensures s)))
