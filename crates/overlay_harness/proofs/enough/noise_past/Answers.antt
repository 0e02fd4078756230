use Rattle.std.proofs.Common.{◌≡◌, ◌+◌, ◌-◌, ◌*◌, ◌++◌, ◌∷◌, [], ℕ, List, map, take, sym, ap, ◌∙◌, arith}
use Rattle.std.proofs.Math.Nat.{mul_comm}
use Rattle.std.proofs.lemmas.List.{map_more, take_all}
use Rattle.overlay_harness.specs.declared.stage.Stage.{Stage as CodeStage}
use Rattle.overlay_harness.specs.Shown.{shown}
use Rattle.overlay_harness.specs.Stages.{noise_for}
use Rattle.overlay_harness.proofs.Counting.{noise_for-push}
use Rattle.overlay_harness.proofs.enough.noise_past.Goals as goal

pub loop-stage-preserved : goal.loop-stage-preserved
loop-stage-preserved c =
    let codes : List CodeStage = c.args.stages.now in
    let i = c.loop-stage.stage-index in
    let code : CodeStage = c.stage-item.result in
    let more : map shown (take (i + 1) codes) ≡ map shown (take i codes) ++ shown code ∷ [] =
    map_more shown codes i code c.loop-stage-test.true ∙ ap (λ (d : CodeStage). map shown (take i codes) ++ shown d ∷ []) (sym c.stage-item.is) in
    let last = noise_for-push c.args.node (map shown (take i codes)) (shown code) in
    let all = ap (noise_for c.args.node) more in
    let own = c.noise_in_stage-own.ensures in
    let turned : c.noise_in_stage-own.result * code.copies ≡ code.copies * c.noise_in_stage-own.result = mul_comm c.noise_in_stage-own.result code.copies in
    let same = ap (λ (n : ℕ). code.copies * n) own in
    let so_far = c.loop-stage.invariant in
    omega arith

pub returns : goal.returns
returns c =
    c.loop-stage.invariant
    ∙ ap (λ (codes : List CodeStage). c.args.came - noise_for c.args.node (map shown codes))
    (take_all c.loop-stage.stage-index c.args.stages.now (omega arith))
