use Rattle.std.proofs.Common.{IfOk, ap, ◌∙◌, subst}
use Rattle.overlay_rules.specs.State.{State}
use Rattle.node_parts.specs.Seen.{seen}
use Rattle.node_parts.specs.Plans.{Plans}
use Rattle.coverage.specs.declared.Reach.{Reach}
use Rattle.coverage.specs.GapFiles.{lists_in_gap}
use Rattle.overlay_rules.specs.declared.gate.Gate.{Gate}
use Rattle.overlay_rules.specs.declared.gate.Verdict.{Verdict}
use Rattle.overlay_rules.specs.declared.gate.Verdict.TheVariants as verdicts
use Rattle.overlay_rules.specs.Gates.{Links, asked_links}
use Rattle.overlay_rules.specs.Gatekeeper.{lease_by, cleared, opened}
use Rattle.gate_core.specs.Reached.{reach_of}
use Rattle.node_core.proofs.Gates.{gated-reach}
use Rattle.node_core.proofs.joins.leasing.weighed.Goals as goal

pub returns-in-Again : goal.returns-in-Again
returns-in-Again c = λ known.
    let s : State = seen c.args.node.now known in
    let g : Gate = c.args.gate.now in
    subst (λ (v : Verdict). IfOk c.again.result (λ p. Plans s p (lease_by s c.args.links.now.left c.args.links.now.right g v)))
    c.in-Again.ensures.answer (c.again.ensures known)

pub returns-in-Busy : goal.returns-in-Busy
returns-in-Busy c = λ known.
    let s : State = seen c.args.node.now known in
    let g : Gate = c.args.gate.now in
    subst (λ (v : Verdict). IfOk c.denied.result (λ p. Plans s p (lease_by s c.args.links.now.left c.args.links.now.right g v)))
    c.in-Busy.ensures.answer (c.denied.ensures known)

pub returns-in-Moved : goal.returns-in-Moved
returns-in-Moved c = λ known.
    let s : State = seen c.args.node.now known in
    let g : Gate = c.args.gate.now in
    subst (λ (v : Verdict). IfOk c.denied-in-Moved.result (λ p. Plans s p (lease_by s c.args.links.now.left c.args.links.now.right g v)))
    c.in-Moved.ensures.answer (c.denied-in-Moved.ensures known)

pub returns-in-Grant : goal.returns-in-Grant
returns-in-Grant c = λ known.
    let s : State = seen c.args.node.now known in
    let g : Gate = c.args.gate.now in
    let k : Links = c.args.links.now in
    let old : State = cleared s g.joiner g.attempt in
    subst (λ (v : Verdict). IfOk c.open.result (λ p. Plans s p (lease_by s k.left k.right g v)))
    c.in-Grant.ensures.answer
    (subst (λ (r : Reach). IfOk c.open.result (λ p. Plans s p (opened old r g (lists_in_gap r g.joiner s.files))))
    (c.reach.ensures
    ∙ ap (λ (x : Links). reach_of x s.me) (c.in-Grant.ensures.links ∙ ap (λ (x : Links). asked_links x s.me g verdicts.Grant) c.requires)
    ∙ gated-reach s k.left k.right g)
    (c.open.ensures known))
