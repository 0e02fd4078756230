use Rattle.std.proofs.Common.{ℕ, ◌∷◌, [], List, IfOk, sym, ◌∙◌, subst}
use Rattle.overlay_rules.specs.State.{State}
use Rattle.overlay_rules.specs.Outcome.{Outcome, becomes, sent}
use Rattle.node_parts.specs.Seen.{seen}
use Rattle.node_parts.specs.Plans.{Plans}
use Rattle.wire_msg.specs.Words.{ProbeReply}
use Rattle.node_core.proofs.Rows.{probe-unready, probe-ready}
use Rattle.node_core.proofs.joins.probing.on_probe.Goals as goal

pub returns-then-not-is_ready : goal.returns-then-not-is_ready
returns-then-not-is_ready c = λ known h.
    let s : State = seen c.args.node.now known in
    subst (λ (o : Outcome). Plans s c.quiet.result o)
    (probe-unready s c.args.from c.args.attempt s.phase (sym c.is_ready.ensures ∙ c.if-not-is_ready.true))
    (c.quiet.ensures s s (c.nothing.ensures s))

pub returns : goal.returns
returns c = λ known h.
    let s : State = seen c.args.node.now known in
    subst (λ (o : Outcome). IfOk c.sending.result (λ p. Plans s p o))
    (probe-ready s c.args.from c.args.attempt s.phase (sym c.is_ready.ensures ∙ c.if-not-is_ready.false))
    (subst (λ (ms : List ℕ). IfOk c.sending.result (λ p. Plans s p (becomes s (sent c.args.from (ProbeReply c.args.attempt ms) ∷ []) [])))
    (c.in_ok-members.ensures known h) (c.sending.ensures s s (c.nothing-2.ensures s)))
