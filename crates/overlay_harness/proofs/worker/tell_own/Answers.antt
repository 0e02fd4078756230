use Rattle.std.proofs.Common.{◌≡◌, ◌∙◌, ◌+◌, suc, ◌++◌, ◌∷◌, [], List, drop, take, refl, sym, subst, ap, arith}
use Rattle.std.proofs.lemmas.List.{take_all, take_more}
use Rattle.std.proofs.Math.Seq.{drop-cons}
use Rattle.scenario_reader.specs.declared.action.Action.{Action}
use Rattle.node_cell.specs.Cell.{Cell}
use Rattle.overlay_harness.specs.Work.{MayBeTold, told}
use Rattle.overlay_harness.proofs.Working.{first_may, others_may, told-append}
use Rattle.overlay_harness.proofs.worker.tell_own.Goals as goal

pub loop-action-init : goal.loop-action-init
loop-action-init c = record { told = refl; others = c.requires }

pub tell_one-requires : goal.tell_one-requires
tell_one-requires c =
    let i = c.loop-action.action-index in
    let actions : List Action = c.args.actions.now in
    let a : Action = c.action-item.result in
    let left : drop i actions ≡ a ∷ drop (suc i) actions =
    drop-cons actions i a c.loop-action-test.true ∙ ap (λ (d : Action). d ∷ drop (suc i) actions) (sym c.action-item.is) in
    first_may (c.loop-action.cell ∷ []) a (drop (suc i) actions)
    (subst (MayBeTold (c.loop-action.cell ∷ [])) left c.loop-action.invariant.others)

pub loop-action-preserved : goal.loop-action-preserved
loop-action-preserved c =
    let i = c.loop-action.action-index in
    let cell : Cell = c.loop-action.cell in
    let actions : List Action = c.args.actions.now in
    let a : Action = c.action-item.result in
    let left : drop i actions ≡ a ∷ drop (suc i) actions =
    drop-cons actions i a c.loop-action-test.true ∙ ap (λ (d : Action). d ∷ drop (suc i) actions) (sym c.action-item.is) in
    let next : take (i + 1) actions ≡ take i actions ++ a ∷ [] =
    take_more actions i a c.loop-action-test.true ∙ ap (λ (d : Action). take i actions ++ d ∷ []) (sym c.action-item.is) in
    let now : c.tell_one.new.cell ≡ told (a ∷ []) cell = c.in_ok-tell_one.ensures in
    let one : suc i ≡ i + 1 = omega arith in
    record {
      told = now
          ∙ ap (told (a ∷ [])) c.loop-action.invariant.told
          ∙ sym (told-append (take i actions) (a ∷ []) c.args.cell.now)
          ∙ ap (λ (ds : List Action). told ds c.args.cell.now) (sym next);
      others = subst (λ n. MayBeTold (c.tell_one.new.cell ∷ []) (drop n actions)) one
          (subst (λ (d : Cell). MayBeTold (d ∷ []) (drop (suc i) actions)) (sym now)
          (others_may (cell ∷ []) a (drop (suc i) actions) (subst (MayBeTold (cell ∷ [])) left c.loop-action.invariant.others)));
    }

pub returns : goal.returns
returns c =
    c.loop-action.invariant.told
    ∙ ap (λ (ds : List Action). told ds c.args.cell.now) (take_all c.loop-action.action-index c.args.actions.now (omega arith))
