use Rattle.std.proofs.Common.{◌≡◌, ◌∙◌, ◌++◌, List, drop, length, take, sym, subst, ap, arith}
use Rattle.node_cell.specs.Cell.{Cell}
use Rattle.scenario_reader.specs.Plain.{PlainScenario}
use Rattle.overlay_harness.specs.Whole.{HaveKept}
use Rattle.overlay_harness.proofs.Ending.{have_kept, put_back}
use Rattle.overlay_harness.proofs.threaded.cells_served_by_threads.Goals as goal

pub returns : goal.returns
returns g c =
    let s : PlainScenario = c.args.scenario.now in
    let olds : List Cell = c.in_ok-cells.cells.items in
    let news : List Cell = c.serve_stages.new.cells in
    let back : take c.in_ok-cells.cells.len (news ++ drop (length news) olds) ≡ news =
    put_back olds news c.in_ok-cells.cells.len (c.serve_stages.auto.cells ∙ ap length c.deref_mut.ensures.value) (omega arith) in
    subst (HaveKept s) (sym back) (have_kept s news c.in_ok-serve_stages.ensures.served)
