use Rattle.std.proofs.Common.{[], ◌∷◌, IfOk, subst, sym}
use Rattle.wire_msg.specs.Words.{Lookup}
use Rattle.overlay_rules.specs.declared.request.Asked.TheVariants as asked
use Rattle.overlay_rules.specs.declared.request.Way.TheVariants as way
use Rattle.overlay_rules.specs.State.{State}
use Rattle.overlay_rules.specs.Outcome.{Outcome, becomes, sent}
use Rattle.node_parts.specs.declared.node.Node.{Node}
use Rattle.node_parts.specs.Change.{waited}
use Rattle.node_parts.specs.Seen.{seen}
use Rattle.node_parts.specs.Plans.{Plans}
use Rattle.node_core.specs.declared.request.Request.{Request}
use Rattle.node_core.proofs.Routing.{lookup-at, lookup-refused}
use Rattle.node_core.proofs.files.lookup.on_lookup.Goals as goal

pub returns-in-Here : goal.returns-in-Here
returns-in-Here c = λ known h.
    let n : Node = c.args.node.now in
    let r : Request = c.args.request.now in
    let s : State = seen n known in
    lookup-at (λ (o : Outcome). IfOk c.delivered.result (λ p. Plans s p o)) (waited r.wait s) r.origin r.number c.args.key c.args.hops way.Here
    (c.in-Here.ensures r known h)
    (c.delivered.ensures s)

pub returns-in-On : goal.returns-in-On
returns-in-On c = λ known h.
    let n : Node = c.args.node.now in
    let r : Request = c.args.request.now in
    let s : State = seen n known in
    lookup-at (λ (o : Outcome). IfOk c.passed_on.result (λ p. Plans s p o)) (waited r.wait s) r.origin r.number c.args.key c.args.hops (way.To c.in-On.next)
    (c.in-On.ensures r known h)
    (subst (λ m. IfOk c.passed_on.result (λ p. Plans s p (becomes (waited r.wait s) (sent c.in-On.next (Lookup r.origin r.number c.args.key m) ∷ []) [])))
    c.one_more.ensures
    (c.passed_on.ensures s))

pub returns-in-Refused : goal.returns-in-Refused
returns-in-Refused c = λ known h.
    let r : Request = c.args.request.now in
    let s : State = seen c.args.node.now known in
    let P : Outcome → Type 0 = λ o. IfOk c.replied.result (λ p. Plans s p o) in
    lookup-refused P (waited r.wait s) r.origin r.number c.args.key c.args.hops
    (λ next here. subst P (sym (c.in-Refused.ensures r known h asked.Lookup next here)) (c.replied.ensures s))
