use Rattle.std.proofs.Common.{IfOk, ◌∙◌, subst}
use Rattle.overlay_rules.specs.State.{State}
use Rattle.overlay_rules.specs.Outcome.{Outcome}
use Rattle.node_parts.specs.Seen.{seen}
use Rattle.node_parts.specs.Plans.{Plans}
use Rattle.coverage.specs.GapFiles.{Lists}
use Rattle.join_core.specs.declared.steps.GrantStep.TheVariants as grant
use Rattle.node_core.proofs.Rows.{was_granted}
use Rattle.node_core.proofs.joins.finishing.on_grant.Goals as goal

pub returns-in-Older : goal.returns-in-Older
returns-in-Older c = λ known h.
    let s : State = seen c.args.node.now known in
    let lists : Lists = record { manifest = c.args.manifest.now; tombs = c.args.tombs.now } in
    subst (λ (o : Outcome). IfOk c.sending.result (λ p. Plans s p o))
    (was_granted s c.args.from c.args.attempt lists c.in_ok-joiner.joiner grant.Older (c.in_ok-joiner.ensures ∙ c.joiner.ensures) c.in-Older.ensures.answer)
    (c.sending.ensures s s (c.nothing.ensures s))

pub returns-in-Settled : goal.returns-in-Settled
returns-in-Settled c = λ known h.
    let s : State = seen c.args.node.now known in
    let lists : Lists = record { manifest = c.args.manifest.now; tombs = c.args.tombs.now } in
    subst (λ (o : Outcome). IfOk c.sending-in-Settled.result (λ p. Plans s p o))
    (was_granted s c.args.from c.args.attempt lists c.in_ok-joiner.joiner grant.Settled (c.in_ok-joiner.ensures ∙ c.joiner.ensures) c.in-Settled.ensures.answer)
    (c.sending-in-Settled.ensures s s (c.nothing-in-Settled.ensures s))

pub returns : goal.returns
returns c = λ known h.
    let s : State = seen c.args.node.now known in
    let lists : Lists = record { manifest = c.args.manifest.now; tombs = c.args.tombs.now } in
    subst (λ (o : Outcome). Plans s c.quiet.result o)
    (was_granted s c.args.from c.args.attempt lists c.in_ok-joiner.joiner grant.Dropped (c.in_ok-joiner.ensures ∙ c.joiner.ensures) c.in-Dropped.ensures.answer)
    (c.quiet.ensures s s (c.nothing-in-Dropped.ensures s))
