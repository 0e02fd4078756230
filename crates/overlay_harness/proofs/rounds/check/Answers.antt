use Rattle.std.proofs.Common.{◌≡◌, ◌∙◌, ◌+◌, ◌++◌, ◌∷◌, [], None, List, All, take, sym, subst, ap}
use Rattle.std.proofs.lemmas.List.{take_all, take_more}
use Rattle.std.proofs.lemmas.List.Elements.{All-push}
use Rattle.overlay_harness.specs.declared.worker.Worker.{Worker}
use Rattle.overlay_harness.proofs.rounds.check.Goals as goal

abbrev IsFine : Worker → Type 0
IsFine w = w.fault ≡ None

pub loop-worker-2-preserved : goal.loop-worker-2-preserved
loop-worker-2-preserved c =
    let workers : List Worker = c.args.workers.now in
    let so_far : List Worker = take c.loop-worker-2.worker-index workers in
    let one : Worker = c.worker-item-in-loop-worker-2.result in
    let next : take (c.loop-worker-2.worker-index + 1) workers ≡ so_far ++ one ∷ [] =
    take_more workers c.loop-worker-2.worker-index one c.loop-worker-2-test.true
    ∙ ap (λ (w : Worker). so_far ++ w ∷ []) (sym c.worker-item-in-loop-worker-2.is) in
    subst (All IsFine) (sym next) (All-push IsFine so_far one c.loop-worker-2.invariant c.in_default-fault.is)

pub returns : goal.returns
returns c = subst (All IsFine) (take_all c.loop-worker-2.worker-index c.args.workers.now c.loop-worker-2-test.false) c.loop-worker-2.invariant
