use Rattle.std.proofs.Common.{[], ◌∷◌, IfOk, refl, subst, sym}
use Rattle.wire_msg.specs.Words.{Fetch}
use Rattle.overlay_rules.specs.declared.request.Asked.TheVariants as asked
use Rattle.overlay_rules.specs.declared.request.Way.TheVariants as way
use Rattle.overlay_rules.specs.State.{State}
use Rattle.overlay_rules.specs.Outcome.{Outcome, becomes, sent, replied}
use Rattle.node_parts.specs.declared.node.Node.{Node}
use Rattle.node_parts.specs.Change.{waited}
use Rattle.node_parts.specs.Seen.{seen}
use Rattle.node_parts.specs.Plans.{Plans}
use Rattle.node_core.specs.declared.request.Request.{Request}
use Rattle.node_core.proofs.Routing.{fetch-at, fetch-refused}
use Rattle.node_core.proofs.files.fetch.on_fetch.Goals as goal

pub returns-in_ok-reply-in-Here : goal.returns-in_ok-reply-in-Here
returns-in_ok-reply-in-Here c = λ known h.
    let n : Node = c.args.node.now in
    let r : Request = c.args.request.now in
    let s : State = seen n known in
    fetch-at (λ (o : Outcome). IfOk c.replied.result (λ p. Plans s p o))
    (waited r.wait s) r.origin r.number c.args.hops c.args.file.now c.key_of.result way.Here c.key_of.ensures
    (c.in-Here.ensures r known h)
    (subst (λ x. IfOk c.replied.result (λ p. Plans s p (replied (waited r.wait s) asked.Fetch r.origin r.number x)))
    (c.in_ok-reply-in-Here.ensures (waited r.wait s) refl)
    (c.replied.ensures s))

pub returns-in-On : goal.returns-in-On
returns-in-On c = λ known h.
    let n : Node = c.args.node.now in
    let r : Request = c.args.request.now in
    let s : State = seen n known in
    fetch-at (λ (o : Outcome). IfOk c.passed_on.result (λ p. Plans s p o)) (waited r.wait s) r.origin r.number c.args.hops c.args.file.now c.key_of.result
    (way.To c.in-On.next) c.key_of.ensures
    (c.in-On.ensures r known h)
    (subst (λ m. IfOk c.passed_on.result (λ p. Plans s p (becomes (waited r.wait s) (sent c.in-On.next (Fetch r.origin r.number m c.args.file.now) ∷ []) [])))
    c.one_more.ensures
    (c.passed_on.ensures s))

pub returns-in-Refused : goal.returns-in-Refused
returns-in-Refused c = λ known h.
    let r : Request = c.args.request.now in
    let s : State = seen c.args.node.now known in
    let P : Outcome → Type 0 = λ o. IfOk c.replied-in-Refused.result (λ p. Plans s p o) in
    fetch-refused P (waited r.wait s) r.origin r.number c.args.hops c.args.file.now c.key_of.result c.key_of.ensures
    (λ next here. subst P (sym (c.in-Refused.ensures r known h asked.Fetch next here)) (c.replied-in-Refused.ensures s))
