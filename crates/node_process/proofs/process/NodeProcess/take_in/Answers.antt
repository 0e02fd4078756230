use Rattle.std.proofs.Common.{subst}
use Rattle.std.proofs.lemmas.Result.{on_ok_weaker}
use Rattle.node_cell.specs.declared.fault.CellFault.{CellFault}
use Rattle.node_process.specs.Steps.{IsDueToTold, IsSpentTold}
use Rattle.node_process.proofs.Talking.{added_spent, added_taken}
use Rattle.node_process.proofs.process.NodeProcess.take_in.Goals as goal

pub returns-in-Ok : goal.returns-in-Ok
returns-in-Ok c t far = on_ok_weaker c.put_taken.result
    (λ added. added_taken t c.args.told.now c.in-Ok.taken c.step.new.self c.args.text.now c.put_taken.new.text (c.in-Ok.ensures.ok t far) added)
    c.put_taken.ensures

pub returns-in-Err-Spent : goal.returns-in-Err-Spent
returns-in-Err-Spent c t far =
    let spent : IsSpentTold t c.args.told.now =
    subst (λ (f : CellFault). IsDueToTold t c.args.told.now f) c.in-Err-Spent.field-0-is (c.in-Err-Spent.ensures.spent t far) in
    on_ok_weaker c.put_refused.result
    (λ added. added_spent t c.args.told.now c.step.new.self c.args.text.now c.put_refused.new.text spent (c.in-Err-Spent.ensures.err t far) added)
    c.put_refused.ensures
