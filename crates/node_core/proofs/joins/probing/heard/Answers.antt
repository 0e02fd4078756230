use Rattle.std.proofs.Common.{ℕ, List, IfOk, sym, ap, ◌∙◌, subst}
use Rattle.overlay_rules.specs.State.{State}
use Rattle.overlay_rules.specs.Outcome.{Outcome}
use Rattle.node_parts.specs.Seen.{seen}
use Rattle.node_parts.specs.Plans.{Plans}
use Rattle.ring_math.specs.Sides.{learn_all, leaves, first_or, left_side, right_side}
use Rattle.leaf_set.specs.Leaves.{StandsFor}
use Rattle.join_core.specs.declared.joiner.Joiner.{Joiner}
use Rattle.join_core.specs.declared.steps.ProbeStep.{ProbeStep}
use Rattle.join_core.specs.declared.steps.ProbeStep.TheVariants as probe
use Rattle.join_core.specs.Probes.{after_probe_reply}
use Rattle.node_core.specs.Asked.{probes_sent, leases_asked}
use Rattle.node_core.proofs.Rows.{was_probed}
use Rattle.node_core.proofs.joins.probing.heard.Goals as goal

pub returns-in-Probe : goal.returns-in-Probe
returns-in-Probe c = λ known h.
    let s : State = seen c.args.node.now known in
    subst (λ (o : Outcome). IfOk c.probing.result (λ p. Plans s p o))
    (ap (λ (j : Joiner). probes_sent s j c.args.members.now c.in-Probe.more)
    (c.in_ok-answer.ensures.joiner ∙ ap (λ (x : ProbeStep). after_probe_reply x c.args.from c.in_ok-joiner.joiner) c.in-Probe.is)
    ∙ was_probed s c.args.from c.args.attempt c.args.members.now c.in_ok-joiner.joiner c.in_ok-leaves.leaves c.first_left-left.result c.first_right-right.result
    (probe.Probe c.in-Probe.more) (c.in_ok-joiner.ensures ∙ c.joiner.ensures)
    (c.in_ok-leaves.ensures _ (subst (λ (xs : List ℕ). StandsFor c.leafs_after-leafs.result (learn_all s.me known xs)) c.as_slice.ensures.value
    (c.leafs_after-leafs.ensures.stands known h)) ∙ ap (λ m. leaves m (learn_all s.me known c.args.members.now)) c.leafs_after-leafs.ensures.me)
    (c.first_left-left.ensures _ (subst (λ (xs : List ℕ). StandsFor c.leafs_after-leafs.result (learn_all s.me known xs)) c.as_slice.ensures.value
    (c.leafs_after-leafs.ensures.stands known h))
    ∙ ap (λ m. first_or m (left_side m (learn_all s.me known c.args.members.now))) c.leafs_after-leafs.ensures.me)
    (c.first_right-right.ensures _ (subst (λ (xs : List ℕ). StandsFor c.leafs_after-leafs.result (learn_all s.me known xs)) c.as_slice.ensures.value
    (c.leafs_after-leafs.ensures.stands known h))
    ∙ ap (λ m. first_or m (right_side m (learn_all s.me known c.args.members.now))) c.leafs_after-leafs.ensures.me)
    (sym c.in-Probe.is ∙ c.in_ok-answer.ensures.answer))
    (subst (λ (xs : List ℕ). IfOk c.probing.result (λ p. Plans s p (probes_sent s c.on_probe_reply.new.self c.args.members.now xs)))
    c.as_slice-in-Probe.ensures.value (c.probing.ensures s))

pub returns-in-Lease : goal.returns-in-Lease
returns-in-Lease c = λ known h.
    let s : State = seen c.args.node.now known in
    subst (λ (o : Outcome). IfOk c.leasing.result (λ p. Plans s p o))
    (ap (λ (j : Joiner). leases_asked s j c.args.members.now c.in-Lease.attempt c.in-Lease.left c.in-Lease.right)
    (c.in_ok-answer.ensures.joiner ∙ ap (λ (x : ProbeStep). after_probe_reply x c.args.from c.in_ok-joiner.joiner) c.in-Lease.is)
    ∙ was_probed s c.args.from c.args.attempt c.args.members.now c.in_ok-joiner.joiner c.in_ok-leaves.leaves c.first_left-left.result c.first_right-right.result
    (probe.Lease c.in-Lease.attempt c.in-Lease.left c.in-Lease.right) (c.in_ok-joiner.ensures ∙ c.joiner.ensures)
    (c.in_ok-leaves.ensures _ (subst (λ (xs : List ℕ). StandsFor c.leafs_after-leafs.result (learn_all s.me known xs)) c.as_slice.ensures.value
    (c.leafs_after-leafs.ensures.stands known h)) ∙ ap (λ m. leaves m (learn_all s.me known c.args.members.now)) c.leafs_after-leafs.ensures.me)
    (c.first_left-left.ensures _ (subst (λ (xs : List ℕ). StandsFor c.leafs_after-leafs.result (learn_all s.me known xs)) c.as_slice.ensures.value
    (c.leafs_after-leafs.ensures.stands known h))
    ∙ ap (λ m. first_or m (left_side m (learn_all s.me known c.args.members.now))) c.leafs_after-leafs.ensures.me)
    (c.first_right-right.ensures _ (subst (λ (xs : List ℕ). StandsFor c.leafs_after-leafs.result (learn_all s.me known xs)) c.as_slice.ensures.value
    (c.leafs_after-leafs.ensures.stands known h))
    ∙ ap (λ m. first_or m (right_side m (learn_all s.me known c.args.members.now))) c.leafs_after-leafs.ensures.me)
    (sym c.in-Lease.is ∙ c.in_ok-answer.ensures.answer))
    (c.leasing.ensures s)

pub returns : goal.returns
returns c = λ known h.
    let s : State = seen c.args.node.now known in
    subst (λ (o : Outcome). Plans s c.quiet.result o)
    (was_probed s c.args.from c.args.attempt c.args.members.now c.in_ok-joiner.joiner c.in_ok-leaves.leaves c.first_left-left.result c.first_right-right.result
    probe.Dropped (c.in_ok-joiner.ensures ∙ c.joiner.ensures)
    (c.in_ok-leaves.ensures _ (subst (λ (xs : List ℕ). StandsFor c.leafs_after-leafs.result (learn_all s.me known xs)) c.as_slice.ensures.value
    (c.leafs_after-leafs.ensures.stands known h)) ∙ ap (λ m. leaves m (learn_all s.me known c.args.members.now)) c.leafs_after-leafs.ensures.me)
    (c.first_left-left.ensures _ (subst (λ (xs : List ℕ). StandsFor c.leafs_after-leafs.result (learn_all s.me known xs)) c.as_slice.ensures.value
    (c.leafs_after-leafs.ensures.stands known h))
    ∙ ap (λ m. first_or m (left_side m (learn_all s.me known c.args.members.now))) c.leafs_after-leafs.ensures.me)
    (c.first_right-right.ensures _ (subst (λ (xs : List ℕ). StandsFor c.leafs_after-leafs.result (learn_all s.me known xs)) c.as_slice.ensures.value
    (c.leafs_after-leafs.ensures.stands known h))
    ∙ ap (λ m. first_or m (right_side m (learn_all s.me known c.args.members.now))) c.leafs_after-leafs.ensures.me)
    (sym c.in-Dropped.is ∙ c.in_ok-answer.ensures.answer))
    (c.quiet.ensures s s (c.nothing.ensures s))
