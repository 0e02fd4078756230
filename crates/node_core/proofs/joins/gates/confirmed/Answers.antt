use Rattle.std.proofs.Common.{◌≡◌, ℕ, Bool, true, false, [], refl, sym, ap, ◌∙◌, subst}
use Rattle.overlay_rules.specs.State.{State}
use Rattle.overlay_rules.specs.State as phase
use Rattle.overlay_rules.specs.Outcome.{Outcome, nothing, becomes}
use Rattle.node_parts.specs.Seen.{seen}
use Rattle.node_parts.specs.Plans.{Plans}
use Rattle.std.proofs.Common.{if◌then◌else◌}
use Rattle.overlay_rules.specs.State.{bare}
use Rattle.overlay_rules.specs.Gates.{Links, holds_gate, link_after, confirmed_links}
use Rattle.overlay_rules.specs.Gatekeeper.{links_of, confirm_in, confirmed}
use Rattle.join_core.specs.Joining.{attempt_of}
use Rattle.node_core.proofs.Rows.{attempt-is, by_parts}
use Rattle.node_core.proofs.joins.gates.confirmed.Goals as goal

row : (s : State) (k : Links) (from a b : ℕ) (test : Bool) (o : Outcome) → s.phase ≡ phase.Ready b k.left k.right → k ≡ links_of s k.left k.right →
    test ≡ holds_gate k from a →
    o ≡ (if test then becomes (confirmed s from a b k.left k.right) [] [] else nothing s) → o ≡ confirm_in s from a s.phase
row s k from a b test o e f g h =
    h ∙ ap (λ (t : Bool). if t then becomes (confirmed s from a b k.left k.right) [] [] else nothing s) (g ∙ ap (λ (x : Links). holds_gate x from a) f)
    ∙ ap (confirm_in s from a) (sym e)

pub returns-then-not-confirm : goal.returns-then-not-confirm
returns-then-not-confirm c = λ known.
    let s : State = seen c.args.node.now known in
    let k : Links = c.args.links.now in
    subst (λ (o : Outcome). Plans s c.quiet.result o)
    (row s k c.args.from c.args.attempt (phase.attempt_of s.phase) false (nothing s) c.requires.ready c.requires.links
    (sym c.if-not-confirm.true ∙ c.confirm.ensures.answer) refl)
    (c.quiet.ensures s s (c.nothing.ensures s))

pub returns : goal.returns
returns c = λ known.
    let s : State = seen c.args.node.now known in
    let k : Links = c.args.links.now in
    let from = c.args.from in
    let a = c.args.attempt in
    let b = phase.attempt_of s.phase in
    let after : Links = c.confirm.new.self in
    let left = link_after from a (bare s.left_gate) k.left in
    let right = link_after from a (bare s.right_gate) k.right in
    let e : after ≡ confirmed_links (links_of s k.left k.right) from a =
    c.confirm.ensures.links ∙ ap (λ (x : Links). confirmed_links x from a) c.requires.links in
    let lefts : c.after.inside.left ≡ left = ap (λ (x : Links). x.left) (c.after.view_is ∙ e) in
    let rights : c.after.inside.right ≡ right = ap (λ (x : Links). x.right) (c.after.view_is ∙ e) in
    let attempt : c.attempt.result ≡ b = c.attempt.ensures ∙ ap attempt_of c.joiner.ensures ∙ attempt-is s.phase in
    subst (λ (o : Outcome). Plans s c.quiet-2.result o)
    (row s k from a b true _ c.requires.ready c.requires.links (sym c.if-not-confirm.false ∙ c.confirm.ensures.answer) refl)
    (c.quiet-2.ensures s (confirmed s from a b k.left k.right)
    (c.in_ok-change.ensures s ∙ by_parts s from c.attempt.result b c.after.inside.left left c.after.inside.right right _ _ _ _ attempt lefts rights
    c.without.ensures c.without-2.ensures))
