use Rattle.std.proofs.Common.{[], sym, ap, ◌∙◌, subst}
use Rattle.overlay_rules.specs.State.{State}
use Rattle.overlay_rules.specs.State as phase
use Rattle.overlay_rules.specs.Outcome.{Outcome}
use Rattle.node_parts.specs.Seen.{seen}
use Rattle.node_parts.specs.Plans.{Plans}
use Rattle.overlay_rules.specs.Gates.{Links}
use Rattle.overlay_rules.specs.Gatekeeper.{links_of}
use Rattle.node_core.proofs.Rows.{ready-is, confirm-unready}
use Rattle.node_core.proofs.joins.gates.on_confirm.Goals as goal

pub confirmed-requires-clause-ready : goal.confirmed-requires-clause-ready
confirmed-requires-clause-ready c =
    ready-is c.args.node.now.seat c.in-Some.links.0 c.in-Some.links.1 c.in-Some.ensures
    ∙ ap (λ (k : Links). phase.Ready (phase.attempt_of c.args.node.now.seat) k.left k.right) (sym (c.links_of.ensures []))

pub confirmed-requires-clause-links : goal.confirmed-requires-clause-links
confirmed-requires-clause-links c =
    c.links_of.ensures [] ∙ ap (λ (k : Links). links_of (seen c.args.node.now []) k.left k.right) (sym (c.links_of.ensures []))

pub returns-in-None : goal.returns-in-None
returns-in-None c = λ known.
    let s : State = seen c.args.node.now known in
    subst (λ (o : Outcome). Plans s c.quiet.result o) (confirm-unready s c.args.from c.args.attempt c.in-None.ensures)
    (c.quiet.ensures s s (c.nothing.ensures s))
