use Rattle.std.proofs.Common.{◌≡◌, ◌∙◌, ℕ, List, All, map, sym, subst, ap}
use Rattle.std.specs.List.{AllZip}
use Rattle.node_cell.specs.Cell.{Cell}
use Rattle.scenario_reader.specs.declared.action.Action.{Action}
use Rattle.weave_laws.specs.Answered.{AllSent}
use Rattle.weave.specs.Cells.{HasNoPasses, histories}
use Rattle.overlay_harness.specs.Hand.{AllTookUpTo, IsDone, ends_after}
use Rattle.overlay_harness.specs.Once.{AllTookOnce}
use Rattle.overlay_harness.specs.Shown.{shown}
use Rattle.overlay_harness.specs.Work.{told}
use Rattle.overlay_harness.proofs.Without.{told_without}
use Rattle.overlay_harness.proofs.Sendings.{all_sent-told}
use Rattle.overlay_harness.proofs.Serving.{all_told_once, whole_stage}
use Rattle.overlay_harness.proofs.hand.serve_by_hand.Goals as goal

pub hand_over_unread-requires-clause-without : goal.hand_over_unread-requires-clause-without
hand_over_unread-requires-clause-without c =
    subst (All HasNoPasses) (sym c.in_ok-tell_all.ensures.told) (told_without c.args.stage.now.actions.now c.args.cells.now c.requires.without)

pub returns-clause-whole : goal.returns-clause-whole
returns-clause-whole c =
    let actions : List Action = c.args.stage.now.actions.now in
    let budget = c.args.stage.now.budget in
    let olds : List Cell = c.args.cells.now in
    let mids : List Cell = map (told actions) olds in
    let news : List Cell = c.hand_over_unread.new.cells in
    let ends : c.deref.result.now ≡ ends_after budget mids =
    c.deref.ensures.value ∙ c.in_ok-ends.ensures ∙ ap (ends_after budget) c.in_ok-tell_all.ensures.told in
    whole_stage (shown c.args.stage.now) (histories news) olds news
    (subst (λ (ns : List ℕ). AllTookUpTo ns mids news) ends
    (subst (λ (ds : List Cell). AllTookUpTo c.deref.result.now ds news) c.in_ok-tell_all.ensures.told c.in_ok-hand_over_unread.ensures.took))
    (subst (λ (ns : List ℕ). AllZip (IsDone (histories news)) ns news) ends c.in_ok-hand_over_unread.ensures.done)

pub returns-clause-once : goal.returns-clause-once
returns-clause-once c = λ once.
    c.in_ok-hand_over_unread.ensures.once
    (subst (λ (ds : List Cell). AllTookOnce (histories ds)) (sym c.in_ok-tell_all.ensures.told)
    (all_told_once c.args.stage.now.actions.now c.args.cells.now once))

pub returns-clause-sent : goal.returns-clause-sent
returns-clause-sent c = λ sent.
    c.in_ok-hand_over_unread.ensures.sent
    (subst (λ (ds : List Cell). AllSent (histories ds)) (sym c.in_ok-tell_all.ensures.told)
    (all_sent-told c.args.stage.now.actions.now c.args.cells.now sent))
