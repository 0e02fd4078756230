use Rattle.std.proofs.Common.{ℕ, List, [], ◌∷◌, IfOk, subst, sym}
use Rattle.wire_msg.specs.Words.{Insert}
use Rattle.overlay_rules.specs.declared.request.Asked.TheVariants as asked
use Rattle.overlay_rules.specs.declared.request.Way.TheVariants as way
use Rattle.overlay_rules.specs.State.{State}
use Rattle.overlay_rules.specs.Outcome.{Outcome, becomes, sent}
use Rattle.node_parts.specs.declared.node.Node.{Node}
use Rattle.node_parts.specs.Change.{waited}
use Rattle.node_parts.specs.Seen.{seen}
use Rattle.node_parts.specs.Plans.{Plans}
use Rattle.node_core.specs.declared.request.Request.{Request}
use Rattle.node_core.proofs.Routing.{insert-at, insert-refused}
use Rattle.node_core.proofs.files.insert.on_insert.Goals as goal

pub returns-in-Here : goal.returns-in-Here
returns-in-Here c = λ known h.
    let n : Node = c.args.node.now in
    let r : Request = c.args.request.now in
    let s : State = seen n known in
    insert-at (λ (o : Outcome). IfOk c.insert_here.result (λ p. Plans s p o))
    (waited r.wait s) r.origin r.number c.args.hops c.args.file.now c.args.copies c.args.bytes.now c.key_of.result way.Here c.key_of.ensures
    (c.in-Here.ensures r known h)
    (c.insert_here.ensures known h)

pub returns-in_ok-copy-in-On : goal.returns-in_ok-copy-in-On
returns-in_ok-copy-in-On c = λ known h.
    let n : Node = c.args.node.now in
    let r : Request = c.args.request.now in
    let s : State = seen n known in
    insert-at (λ (o : Outcome). IfOk c.passed_on.result (λ p. Plans s p o))
    (waited r.wait s) r.origin r.number c.args.hops c.args.file.now c.args.copies c.args.bytes.now c.key_of.result (way.To c.in-On.next) c.key_of.ensures
    (c.in-On.ensures r known h)
    (subst (λ m. IfOk c.passed_on.result (λ p. Plans s p
    (becomes (waited r.wait s) (sent c.in-On.next (Insert r.origin r.number m c.args.file.now c.args.copies c.args.bytes.now) ∷ []) []))) c.one_more.ensures
    (subst (λ (b : List ℕ). IfOk c.passed_on.result
    (λ p. Plans s p (becomes (waited r.wait s) (sent c.in-On.next (Insert r.origin r.number c.one_more.result c.args.file.now c.args.copies b) ∷ []) [])))
    c.in_ok-copy-in-On.ensures
    (c.passed_on.ensures s)))

pub returns-in-Refused : goal.returns-in-Refused
returns-in-Refused c = λ known h.
    let r : Request = c.args.request.now in
    let s : State = seen c.args.node.now known in
    let P : Outcome → Type 0 = λ o. IfOk c.replied.result (λ p. Plans s p o) in
    insert-refused P (waited r.wait s) r.origin r.number c.args.hops c.args.file.now c.args.copies c.args.bytes.now c.key_of.result c.key_of.ensures
    (λ next here. subst P (sym (c.in-Refused.ensures r known h asked.Insert next here)) (c.replied.ensures s))
