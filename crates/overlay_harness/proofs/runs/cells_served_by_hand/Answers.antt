use Rattle.std.proofs.Common.{◌≡◌, ◌∙◌, ◌++◌, List, [], All, drop, length, map, take, sym, subst, ap, arith}
use Rattle.node_cell.specs.Cell.{Cell}
use Rattle.scenario_reader.specs.Plain.{PlainScenario}
use Rattle.weave.specs.Cells.{HasNoPasses, histories}
use Rattle.overlay_harness.specs.Once.{AllTookOnce}
use Rattle.overlay_harness.specs.Served.{IsServedTo}
use Rattle.overlay_harness.specs.Shown.{shown}
use Rattle.overlay_harness.specs.Whole.{HaveRun}
use Rattle.overlay_harness.proofs.Ending.{have_run, none_took, put_back, served_to_none}
use Rattle.overlay_harness.proofs.runs.cells_served_by_hand.Goals as goal

pub serve_stages-requires-clause-stages : goal.serve_stages-requires-clause-stages
serve_stages-requires-clause-stages c = ap (map shown) c.deref.ensures.value ∙ c.in_ok-all.ensures

pub serve_stages-requires-clause-served : goal.serve_stages-requires-clause-served
serve_stages-requires-clause-served c =
    subst (IsServedTo c.args.scenario.now []) (sym (c.deref_mut.ensures.value ∙ c.in_ok-cells.ensures)) (served_to_none c.args.scenario.now)

pub returns-clause-without : goal.returns-clause-without
returns-clause-without c =
    let olds : List Cell = c.in_ok-cells.cells.items in
    let news : List Cell = c.serve_stages.new.cells in
    let lent : c.deref_mut.result.now ≡ olds = c.deref_mut.ensures.value in
    let back : take c.in_ok-cells.cells.len (news ++ drop (length news) olds) ≡ news =
    put_back olds news c.in_ok-cells.cells.len (c.serve_stages.auto.cells ∙ ap length lent) (omega arith) in
    subst (All HasNoPasses) (sym back) c.in_ok-serve_stages.ensures.served.without

pub returns-clause-run : goal.returns-clause-run
returns-clause-run c =
    let s : PlainScenario = c.args.scenario.now in
    let olds : List Cell = c.in_ok-cells.cells.items in
    let news : List Cell = c.serve_stages.new.cells in
    let lent : c.deref_mut.result.now ≡ olds = c.deref_mut.ensures.value in
    let back : take c.in_ok-cells.cells.len (news ++ drop (length news) olds) ≡ news =
    put_back olds news c.in_ok-cells.cells.len (c.serve_stages.auto.cells ∙ ap length lent) (omega arith) in
    subst (HaveRun s) (sym back)
    (have_run s news c.in_ok-serve_stages.ensures.served
    (c.in_ok-serve_stages.ensures.once
    (subst (λ (cells : List Cell). AllTookOnce (histories cells)) (sym (lent ∙ c.in_ok-cells.ensures)) (none_took s))))
