use Rattle.std.proofs.Common.{◌≡◌, ◌+◌, ◌++◌, ◌∷◌, [], List, map, take, sym, ap, ◌∙◌, arith}
use Rattle.std.proofs.lemmas.List.{map_more, take_all}
use Rattle.overlay_harness.specs.declared.stage.Stage.{Stage as CodeStage}
use Rattle.overlay_harness.specs.Shown.{shown}
use Rattle.overlay_harness.specs.Stages.{most_copies}
use Rattle.overlay_harness.proofs.Counting.{most_copies-push}
use Rattle.overlay_harness.proofs.enough.most_copies.Goals as goal

pub loop-stage-preserved : goal.loop-stage-preserved
loop-stage-preserved c =
    let codes : List CodeStage = c.args.stages.now in
    let i = c.loop-stage.stage-index in
    let code : CodeStage = c.stage-item.result in
    let more : map shown (take (i + 1) codes) ≡ map shown (take i codes) ++ shown code ∷ [] =
    map_more shown codes i code c.loop-stage-test.true ∙ ap (λ (d : CodeStage). map shown (take i codes) ++ shown d ∷ []) (sym c.stage-item.is) in
    let last = most_copies-push (map shown (take i codes)) (shown code) in
    let all = ap most_copies more in
    let so_far = c.loop-stage.invariant in
    omega arith

pub returns : goal.returns
returns c = c.loop-stage.invariant ∙ ap (λ (codes : List CodeStage). most_copies (map shown codes))
    (take_all c.loop-stage.stage-index c.args.stages.now (omega arith))
