use Rattle.std.proofs.Common.{◌≡◌, ◌∙◌, inl, List, All, map, subst, ap}
use Rattle.node_cell.specs.Cell.{Cell}
use Rattle.weave_laws.specs.Cells.{History}
use Rattle.weave.specs.Cells.{histories}
use Rattle.overlay_harness.specs.Clauses.{HasItsNoise}
use Rattle.overlay_harness.specs.Tested.{HasTooMuchNoise}
use Rattle.overlay_harness.specs.Ran.{inputs_in}
use Rattle.overlay_harness.specs.Shown.{shown}
use Rattle.overlay_harness.specs.Stages.{Stage, most_copies, stages_of}
use Rattle.overlay_harness.proofs.runs.tested_run.Goals as goal

pub counted_run-requires-clause-noise : goal.counted_run-requires-clause-noise
counted_run-requires-clause-noise c =
    let stages_are : map shown c.deref-2.result.now ≡ stages_of c.args.scenario.now = ap (map shown) c.deref-2.ensures.value ∙ c.in_ok-all.ensures in
    subst (λ (ss : List Stage). All (λ (h : History). HasItsNoise ss h.node (inputs_in h)) (histories c.args.cells.items)) stages_are
    (subst (λ (cells : List Cell). All (λ (h : History). HasItsNoise (map shown c.deref-2.result.now) h.node (inputs_in h)) (histories cells))
    c.deref.ensures.value (c.noise_is_theirs.ensures.kept c.if-not-noise_is_theirs.false))

pub counted_run-requires-clause-copies : goal.counted_run-requires-clause-copies
counted_run-requires-clause-copies c =
    let stages_are : map shown c.deref-3.result.now ≡ stages_of c.args.scenario.now = ap (map shown) c.deref-3.ensures.value ∙ c.in_ok-all.ensures in
    c.most_copies.ensures ∙ ap most_copies stages_are

pub returns-then-not-noise_is_theirs-clause-none : goal.returns-then-not-noise_is_theirs-clause-none
returns-then-not-noise_is_theirs-clause-none c =
    let stages_are : map shown c.deref-2.result.now ≡ stages_of c.args.scenario.now = ap (map shown) c.deref-2.ensures.value ∙ c.in_ok-all.ensures in
    inl (subst (λ (ss : List Stage). HasTooMuchNoise ss (histories c.args.cells.items)) stages_are
    (subst (λ (cells : List Cell). HasTooMuchNoise (map shown c.deref-2.result.now) (histories cells)) c.deref.ensures.value
    (c.noise_is_theirs.ensures.more c.if-not-noise_is_theirs.true)))
