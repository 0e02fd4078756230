use Rattle.std.proofs.Common.{◌∙◌, ◌+◌, List, ◌∷◌, [], ◌++◌, map, slice_range, sym, subst, ap}
use Rattle.std.proofs.lemmas.List.{map-append}
use Rattle.overlay_harness.specs.Shown.{shown}
use Rattle.overlay_harness.specs.Stages.{Stage}
use Rattle.overlay_harness.proofs.Staging.{IsNextAction, IsStagedTo, ended, settle_found, other_found}
use Rattle.overlay_harness.proofs.stage.stages.Goals as goal
use Rattle.overlay_harness.proofs.stage.stages.Goals.{then-is_settle+in_ok-push, else-is_settle}

pub loop-place-preserved : goal.loop-place-preserved
loop-place-preserved c =
    let actions = c.actions-actions.result.now in
    let begin = c.loop-place.begin in
    let place = c.loop-place.place in
    let copies = c.loop-place.copies in
    let now = c.copies_behind-copies.result in
    let a = c.index-actions-place.result in
    let stages : List Stage = map shown c.loop-place.stages.items in
    let next : IsNextAction actions place copies a now =
    record { within = c.loop-place-test.true; there = c.index-actions-place.is; in_force = c.copies_behind-copies.ensures } in
    elim c.if-is_settle.branch [
      | then-is_settle+in_ok-push w ↦
          let pushed =
          ap (λ ss. map shown ss.items) w.stages-is ∙ ap (map shown) w.in_ok-push.ensures.items ∙ map-append shown c.loop-place.stages.items _ in
          subst (λ ss. IsStagedTo actions c.if-is_settle.begin (place + 1) now ss) (sym pushed)
          (subst (λ n. IsStagedTo actions n (place + 1) now (stages ++ ended (slice_range actions begin (place + 1)) w.budget_in.result now ∷ []))
          (sym w.begin-is)
          (subst (λ n. IsStagedTo actions (place + 1) (place + 1) now (stages ++ ended (slice_range actions begin (place + 1)) n now ∷ []))
          (sym w.budget_in.ensures)
          (settle_found actions begin place copies stages a now c.loop-place.invariant next (sym c.is_settle.ensures ∙ w.if-is_settle.true))))
      | else-is_settle w ↦
          let same = ap (λ ss. map shown ss.items) w.stages-is in
          subst (λ ss. IsStagedTo actions c.if-is_settle.begin (place + 1) now ss) (sym same)
          (subst (λ n. IsStagedTo actions n (place + 1) now stages) (sym w.begin-is)
          (other_found actions begin place copies stages a now c.loop-place.invariant next (sym c.is_settle.ensures ∙ w.if-is_settle.false)))
    ]
