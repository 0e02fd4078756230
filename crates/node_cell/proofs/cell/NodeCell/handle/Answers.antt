use Rattle.std.proofs.Common.{ℕ, subst}
use Rattle.std.proofs.lemmas.Result.{IfErr-weaker}
use Rattle.weave_laws.specs.Cells.{CellInput}
use Rattle.node_cell.specs.declared.fault.CellFault.{CellFault}
use Rattle.node_cell.specs.Cell.{Cell}
use Rattle.node_cell.specs.Entries.{plain_input_of}
use Rattle.node_cell.specs.Reading.{IsInputOf}
use Rattle.node_cell.specs.Faults.{IsDueTo}
use Rattle.node_cell.specs.Taken.{IsDueToBytes}
use Rattle.node_cell.proofs.BytesRead.{one_input}
use Rattle.node_cell.proofs.cell.NodeCell.handle.Goals as goal

-- what is due to the input that was read is due to whichever input the bytes are, since they are one
pub returns-clause-due : goal.returns-clause-due
returns-clause-due c =
    let r : Cell = c.args.self.now in
    let read : CellInput = plain_input_of c.in_ok-input.input in
    let is_read : IsInputOf r.node c.args.frame.now read =
    subst (λ (x : ℕ). IsInputOf x c.args.frame.now read) c.me.ensures c.in_ok-input.ensures in
    IfErr-weaker c.take_in.result (IsDueTo r read) (IsDueToBytes r c.args.frame.now)
    (λ (f : CellFault) (due : IsDueTo r read f) (i : CellInput) (is : IsInputOf r.node c.args.frame.now i).
    subst (λ (j : CellInput). IsDueTo r j f) (one_input r.node c.args.frame.now read i is_read is) due)
    c.take_in.ensures.due
