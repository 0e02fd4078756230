use Rattle.std.proofs.Common.{◌≡◌, ℕ, List, true, refl, sym, ap, ◌∙◌, subst}
use Rattle.ring_math.specs.Sides.{learn_all, leaves}
use Rattle.leaf_set.specs.Leaves.{StandsFor as LeafSetStandsFor}
use Rattle.lookup_core.specs.Kept.{StandsFor}
use Rattle.join_core.specs.Awaited.{is_awaited}
use Rattle.join_core.specs.Joining.{joiner_of}
use Rattle.join_core.specs.Probes.{goes_on_with}
use Rattle.overlay_rules.specs.State.{State}
use Rattle.overlay_rules.specs.Outcome.{Outcome}
use Rattle.overlay_rules.specs.Joining.{on_probe_reply}
use Rattle.node_parts.specs.declared.node.Node.{Node}
use Rattle.node_parts.specs.Seats.{heard_phase}
use Rattle.node_parts.specs.Seen.{seen, Shows}
use Rattle.node_parts.specs.Plans.{Plans, Prepares}
use Rattle.node_parts.proofs.Making.{prepares}
use Rattle.node_core.specs.Asked.{heard_from}
use Rattle.node_core.proofs.Alike.{alike, same-leaves, learnt-besides}
use Rattle.node_core.proofs.Awaited.{not-awaited, only-heard}
use Rattle.node_core.proofs.joins.probing.on_probe_reply.Goals as goal

-- where no leaf is new, and the join goes on by the leaves that there are, it only goes on
going : (n : Node) (known : List ℕ) (from a : ℕ) (members : List ℕ) → Shows n known →
    LeafSetStandsFor n.known.leafs (learn_all n.known.leafs.me known members) →
    is_awaited (joiner_of n.seat) from a ≡ true → goes_on_with (joiner_of n.seat) from (leaves n.me known) ≡ true →
    heard_from (seen n known) from members ≡ on_probe_reply (seen n known) from a members
going n known from a members h leafs awaited on =
    let same = subst (λ m. leaves m (learn_all m known members) ≡ leaves m known) n.same_me
    (same-leaves n.known.leafs known (learn_all n.known.leafs.me known members) h.keeps.leafs leafs) in
    only-heard (seen n known) from a members awaited (ap (goes_on_with (joiner_of n.seat) from) same ∙ on)

pub returns-then-not-awaits : goal.returns-then-not-awaits
returns-then-not-awaits c = λ known h.
    let s : State = seen c.args.node.now known in
    subst (λ (o : Outcome). Prepares s c.quiet.result o)
    (not-awaited s c.args.from c.args.attempt c.args.members.now c.joiner.result.now c.joiner.ensures (sym c.awaits.ensures ∙ c.if-not-awaits.true))
    (prepares s c.quiet.result _ (c.quiet.ensures s s (c.nothing.ensures s)))

pub returns-in-Nothing : goal.returns-in-Nothing
returns-in-Nothing c = λ known h.
    let n : Node = c.args.node.now in
    let s : State = seen n known in
    let members : List ℕ = c.args.members.now in
    let u : State = record s { phase = heard_phase c.args.from s.phase } in
    let told = subst (λ (ids : List ℕ). StandsFor n.known (learn_all n.known.leafs.me known ids)) c.as_slice.ensures.value
    (c.in-Nothing.ensures.same refl known h.keeps) in
    let learnt = subst (λ m. StandsFor n.known (learn_all m known members)) n.same_me told in
    let awaited = ap (λ j. is_awaited j c.args.from c.args.attempt) (sym c.joiner.ensures) ∙ sym c.awaits.ensures ∙ c.if-not-awaits.false in
    subst (λ (o : Outcome). Prepares s c.quiet-in-Nothing.result o)
    (going n known c.args.from c.args.attempt members h told.leafs awaited (c.goes_on.ensures c.if-goes_on.true known h))
    (learnt-besides s c.quiet-in-Nothing.result u (learn_all s.me known members) (c.quiet-in-Nothing.ensures s u (c.answered.ensures s))
    (λ k me st. alike n.known k known (learn_all s.me known members) (n.same_me ∙ sym me) h.keeps learnt st))

pub returns-in_ok-learnt-in-Entry : goal.returns-in_ok-learnt-in-Entry
returns-in_ok-learnt-in-Entry c = λ known h.
    let n : Node = c.args.node.now in
    let s : State = seen n known in
    let members : List ℕ = c.args.members.now in
    let leafs = subst (λ (ids : List ℕ). LeafSetStandsFor n.known.leafs (learn_all n.known.leafs.me known ids)) c.as_slice.ensures.value
    (c.in-Entry.ensures.leafs (λ never. cc) known h.keeps) in
    let awaited = ap (λ j. is_awaited j c.args.from c.args.attempt) (sym c.joiner.ensures) ∙ sym c.awaits.ensures ∙ c.if-not-awaits.false in
    subst (λ (o : Outcome). Prepares s c.quiet-in-Entry.result o)
    (going n known c.args.from c.args.attempt members h leafs awaited (c.if-goes_on-2.ensures refl known h))
    (prepares s c.quiet-in-Entry.result (heard_from s c.args.from members)
    (subst (λ (ids : List ℕ). Plans s c.quiet-in-Entry.result (heard_from s c.args.from ids)) c.in_ok-learnt-in-Entry.ensures
    (c.quiet-in-Entry.ensures s _ (c.hears.ensures s))))
