use Rattle.std.proofs.Common.{IfOk, subst}
use Rattle.coverage.specs.GapFiles.{Lists}
use Rattle.overlay_rules.specs.declared.gate.Gate.{Gate}
use Rattle.overlay_rules.specs.State.{State}
use Rattle.overlay_rules.specs.Gatekeeper.{cleared, opened}
use Rattle.node_parts.specs.Plans.{Plans}
use Rattle.node_parts.specs.Seen.{seen}
use Rattle.node_core.proofs.joins.granting.open.Goals as goal

pub returns : goal.returns
returns c = λ known.
    let s : State = seen c.args.node.now known in
    let g : Gate = c.args.gate.now in
    subst (λ (lists : Lists). IfOk c.open_with.result (λ p. Plans s p (opened (cleared s g.joiner g.attempt) c.args.reach.now g lists)))
    c.in_ok-lists.ensures (c.open_with.ensures known)
