use Rattle.std.proofs.Common.{◌∙◌, subst}
use Rattle.overlay_rules.specs.State.{State}
use Rattle.overlay_rules.specs.Outcome.{Outcome}
use Rattle.node_parts.specs.Seen.{seen}
use Rattle.node_parts.specs.Plans.{Plans}
use Rattle.node_core.proofs.Rows.{noted-other}
use Rattle.node_core.proofs.joins.finishing.noted.Goals as goal

pub returns-in_default : goal.returns-in_default
returns-in_default c = λ known h.
    let s : State = seen c.args.node.now known in
    subst (λ (o : Outcome). Plans s c.quiet.result o)
    (noted-other s c.args.from c.args.lists.now s.phase (λ a n l r x y e. c.in_default.not-Leasing a n l r x y (c.joiner.ensures ∙ e)))
    (c.quiet.ensures s s (c.nothing.ensures s))
