use Rattle.std.proofs.Common.{ℕ, ◌∷◌, [], List, IfOk, subst}
use Rattle.overlay_rules.specs.State.{State}
use Rattle.overlay_rules.specs.Outcome.{becomes, sent}
use Rattle.node_parts.specs.Seen.{seen}
use Rattle.node_parts.specs.Plans.{Plans}
use Rattle.wire_msg.specs.Words.{JoinReply}
use Rattle.node_core.proofs.joins.asking.welcomed.Goals as goal

pub returns : goal.returns
returns c = λ known h.
    let s : State = seen c.args.node.now known in
    subst (λ (ms : List ℕ). IfOk c.sending.result (λ p. Plans s p (becomes s (sent c.args.joiner (JoinReply c.args.attempt ms) ∷ []) [])))
    (c.in_ok-members.ensures known h) (c.sending.ensures s s (c.nothing.ensures s))
