use Rattle.std.proofs.Common.{◌≡◌, ◌∙◌, ◌+◌, suc, ◌++◌, ◌∷◌, [], List, drop, map, take, refl, sym, subst, ap, arith}
use Rattle.std.proofs.lemmas.List.{take_more}
use Rattle.std.proofs.Math.Seq.{drop-cons}
use Rattle.scenario_reader.specs.declared.action.Action.{Action}
use Rattle.overlay_rules.specs.Record.{all_differ}
use Rattle.node_cell.specs.Cell.{Cell}
use Rattle.overlay_harness.specs.Work.{MayBeTold, told}
use Rattle.overlay_harness.proofs.Working.{all_told-append, first_may, others_may, told-none}
use Rattle.overlay_harness.proofs.telling.tell_all.Goals as goal

pub loop-action-init : goal.loop-action-init
loop-action-init c = record { told = sym (told-none c.args.cells.now); nodes_are = refl; others = c.requires.numbers }

pub tell-requires-clause-numbers : goal.tell-requires-clause-numbers
tell-requires-clause-numbers c =
    let i = c.loop-action.action-index in
    let actions : List Action = c.args.actions.now in
    let a : Action = c.action-item.result in
    let left : drop i actions ≡ a ∷ drop (suc i) actions =
    drop-cons actions i a c.loop-action-test.true ∙ ap (λ (d : Action). d ∷ drop (suc i) actions) (sym c.action-item.is) in
    first_may c.loop-action.cells a (drop (suc i) actions) (subst (MayBeTold c.loop-action.cells) left c.loop-action.invariant.others)

pub loop-action-preserved : goal.loop-action-preserved
loop-action-preserved c =
    let i = c.loop-action.action-index in
    let cells : List Cell = c.loop-action.cells in
    let actions : List Action = c.args.actions.now in
    let a : Action = c.action-item.result in
    let left : drop i actions ≡ a ∷ drop (suc i) actions =
    drop-cons actions i a c.loop-action-test.true ∙ ap (λ (d : Action). d ∷ drop (suc i) actions) (sym c.action-item.is) in
    let next : take (i + 1) actions ≡ take i actions ++ a ∷ [] =
    take_more actions i a c.loop-action-test.true ∙ ap (λ (d : Action). take i actions ++ d ∷ []) (sym c.action-item.is) in
    let now : c.tell.new.cells ≡ map (told (a ∷ [])) cells = c.in_ok-tell.ensures.told in
    let one : suc i ≡ i + 1 = omega arith in
    record {
      told = now
          ∙ ap (map (told (a ∷ []))) c.loop-action.invariant.told
          ∙ sym (all_told-append (take i actions) (a ∷ []) c.args.cells.now)
          ∙ ap (λ (ds : List Action). map (told ds) c.args.cells.now) (sym next);
      nodes_are = c.tell.ensures.nodes ∙ c.loop-action.invariant.nodes_are;
      others = subst (λ n. MayBeTold c.tell.new.cells (drop n actions)) one
          (subst (λ (ds : List Cell). MayBeTold ds (drop (suc i) actions)) (sym now)
          (others_may cells a (drop (suc i) actions) (subst (MayBeTold cells) left c.loop-action.invariant.others)));
    }

pub tell-requires-clause-apart : goal.tell-requires-clause-apart
tell-requires-clause-apart c = ap all_differ c.loop-action.invariant.nodes_are ∙ c.requires.apart
