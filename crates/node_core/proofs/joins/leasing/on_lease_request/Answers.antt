use Rattle.std.proofs.Common.{[], IfOk, sym, ap, ◌∙◌, subst}
use Rattle.overlay_rules.specs.State.{State}
use Rattle.overlay_rules.specs.Outcome.{Outcome}
use Rattle.node_parts.specs.Seen.{seen}
use Rattle.node_parts.specs.Plans.{Plans}
use Rattle.overlay_rules.specs.declared.gate.Gate.{Gate}
use Rattle.overlay_rules.specs.Gates.{Links, verdict}
use Rattle.overlay_rules.specs.Gatekeeper.{links_of, lease_by}
use Rattle.node_core.proofs.Rows.{lease-ready, lease-unready}
use Rattle.node_core.proofs.joins.leasing.on_lease_request.Goals as goal

pub weighed-requires : goal.weighed-requires
weighed-requires c =
    c.links_of.ensures [] ∙ ap (λ (k : Links). links_of (seen c.args.node.now []) k.left k.right) (sym (c.links_of.ensures []))

pub returns-in-Some : goal.returns-in-Some
returns-in-Some c = λ known.
    let s : State = seen c.args.node.now known in
    let g : Gate = c.args.gate.now in
    subst (λ (o : Outcome). IfOk c.weighed.result (λ p. Plans s p o))
    (ap (λ (k : Links). lease_by s k.left k.right g (verdict k s.me g)) (c.links_of.ensures known)
    ∙ lease-ready s g c.in-Some.links.0 c.in-Some.links.1 c.in-Some.ensures)
    (c.weighed.ensures known)

pub returns-in-None : goal.returns-in-None
returns-in-None c = λ known.
    let s : State = seen c.args.node.now known in
    let g : Gate = c.args.gate.now in
    subst (λ (o : Outcome). IfOk c.sending.result (λ p. Plans s p o)) (lease-unready s g c.in-None.ensures)
    (c.sending.ensures s s (c.nothing.ensures s))
