use Rattle.std.proofs.Common.{sym, ◌∙◌, subst}
use Rattle.overlay_rules.specs.State.{State}
use Rattle.overlay_rules.specs.Outcome.{Outcome}
use Rattle.node_parts.specs.Seen.{seen}
use Rattle.node_parts.specs.Plans.{Plans}
use Rattle.node_core.proofs.Awaited.{not-asking}
use Rattle.node_core.proofs.joins.probing.on_join_reply.Goals as goal

pub returns-then-not-is_asking : goal.returns-then-not-is_asking
returns-then-not-is_asking c = λ known h.
    let s : State = seen c.args.node.now known in
    subst (λ (o : Outcome). Plans s c.quiet.result o)
    (not-asking s c.args.attempt c.args.members.now c.joiner.result.now c.joiner.ensures (sym c.is_asking.ensures ∙ c.if-not-is_asking.true))
    (c.quiet.ensures s s (c.nothing.ensures s))
