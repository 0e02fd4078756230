use Rattle.std.proofs.Common.{ℕ, List, Bool, Some, None, sym, ap, ◌∙◌, subst}
use Rattle.overlay_rules.specs.State.{State, Leasing}
use Rattle.overlay_rules.specs.Outcome.{Outcome, nothing}
use Rattle.node_parts.specs.Seen.{seen}
use Rattle.node_parts.specs.Plans.{Plans}
use Rattle.std.proofs.Common.{if◌then◌else◌}
use Rattle.ring_math.specs.Files.{buried_all}
use Rattle.coverage.specs.GapFiles.{Lists}
use Rattle.overlay_rules.specs.Joining.{with_grant}
use Rattle.overlay_rules.specs.ReadyTest.{ready_test, readied}
use Rattle.join_core.specs.declared.steps.Finished.{Finished}
use Rattle.node_parts.specs.Seats.{left_lists, right_lists}
use Rattle.node_core.proofs.Rows.{ready-by, keeping-state}
use Rattle.node_core.proofs.joins.finishing.keeping.Goals as goal

pub returns-then-not-is_new : goal.returns-then-not-is_new
returns-then-not-is_new c = λ known h.
    let s : State = seen c.args.node.now known in
    let join : Finished = c.args.join.now in
    let lists : Lists = c.args.lists.now in
    subst (λ (o : Outcome). Plans s c.quiet.result o)
    (sym (ap (λ (b : Bool). if b then ready_test
    (with_grant s c.args.from lists (Leasing join.attempt join.number join.left join.right (left_lists s.phase) (right_lists s.phase))) else nothing s)
    (sym c.is_new.ensures ∙ c.if-not-is_new.true)))
    (c.quiet.ensures s s (c.nothing.ensures s))

pub returns : goal.returns
returns c = λ known h.
    let s : State = seen c.args.node.now known in
    let join : Finished = c.args.join.now in
    let lists : Lists = c.args.lists.now in
    let t : State = with_grant s c.args.from lists (Leasing join.attempt join.number join.left join.right (left_lists s.phase) (right_lists s.phase)) in
    subst (λ (o : Outcome). Plans s c.quiet-2.result o)
    (sym (ap (λ (b : Bool). if b then ready_test t else nothing s) (sym c.is_new.ensures ∙ c.if-not-is_new.false)
    ∙ ready-by t join.attempt join.number join.left join.right _ _
    ∙ ap (λ (b : Bool). if b then readied t join.attempt join.number join.left join.right else nothing t)
    (sym c.is_complete_buried.ensures ∙ c.if-is_complete_buried.false)))
    (c.quiet-2.ensures s t
    (c.in_ok-change.ensures s
    ∙ keeping-state s c.args.from lists join (left_lists s.phase) (right_lists s.phase) c.in_ok-left.left c.in_ok-right.right c.of.result _ c.requires
    (c.in_ok-left.ensures ∙ ap (λ (b : Bool). if b then Some lists else None) c.eq.ensures)
    (c.in_ok-right.ensures ∙ ap (λ (b : Bool). if b then Some lists else None) c.eq-2.ensures) c.of.ensures
    (ap (λ (fs : List (List ℕ)). buried_all s.files fs) c.in_ok-copy.ensures ∙ ap (λ (fs : List (List ℕ)). buried_all s.files fs) c.tombs.ensures)))
