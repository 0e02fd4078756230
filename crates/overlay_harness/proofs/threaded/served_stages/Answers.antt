use Rattle.std.proofs.Common.{◌≡◌, ◌≤◌, ◌<◌, ℕ, List, get_or, map, take, sym, subst, ap, arith}
use Rattle.overlay_harness.specs.declared.stage.Stage.{Stage as CodeStage}
use Rattle.overlay_harness.specs.Driven.{end_budget}
use Rattle.overlay_harness.specs.Shown.{shown}
use Rattle.overlay_harness.specs.Stages.{last_budget}
use Rattle.overlay_harness.proofs.Driving.{last_at_end}
use Rattle.overlay_harness.proofs.threaded.served_stages.Goals as goal
use Rattle.overlay_harness.proofs.threaded.served_stages.Goals.{then-stage-gt0, else-stage-gt0}

pub loop-place-preserved : goal.loop-place-preserved
loop-place-preserved c =
    let codes : List CodeStage = c.args.stages.now in
    let i = c.loop-place.place in
    let code : CodeStage = c.index-stages-place.result in
    let P : ℕ → Type 0 = λ n. last_budget (map shown (take n codes)) ≤ end_budget (map shown (take n codes)) in
    let same : code.budget ≡ (get_or codes i code).budget = ap (λ (s : CodeStage). s.budget) c.index-stages-place.is in
    let within = c.loop-place.invariant.within in
    elim c.if-stage-gt0.branch [
      | then-stage-gt0 w ↦
          let some : 0 < (get_or codes i code).budget = (let gt = w.if-stage-gt0.true in omega arith) in
          let now = w.count-is in
          record { within = omega arith; last = subst P (sym w.count-is) (last_at_end codes i code c.loop-place-test.true some) }
      | else-stage-gt0 w ↦
          let now = w.count-is in
          record { within = omega arith; last = subst P (sym w.count-is) c.loop-place.invariant.last }
    ]
