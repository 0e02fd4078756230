use Rattle.std.proofs.Common.{◌≡◌, ◌<◌, sym, subst, arith}
use Rattle.std.proofs.lemmas.Option.{slice_get_within}
use Rattle.std.proofs.lemmas.Result.{IfErr-weaker, on_ok_weaker}
use Rattle.weave_laws.specs.Cells.{CellInput}
use Rattle.node_cell.specs.declared.fault.CellFault.{CellFault}
use Rattle.node_cell.specs.declared.fault.CellFault.TheVariants as fault
use Rattle.node_cell.specs.declared.fault.TheConstants.{LAST_STAMP}
use Rattle.node_cell.specs.Cell.{Cell}
use Rattle.node_cell.specs.Faults.{greater_stamp}
use Rattle.node_cell.specs.Reading.{IsInputOf}
use Rattle.node_cell.specs.Taken.{IsDueToBytes}
use Rattle.weave.specs.Cells.{HasNoPasses}
use Rattle.weave.proofs.Taking.{not_spent_bytes, ok_holds, one_cell, took_bytes}
use Rattle.weave.proofs.relay.handle_at.Goals as goal

pub index_mut-cell-requires : goal.index_mut-cell-requires
index_mut-cell-requires c =
    let within = slice_get_within c.args.cells.now.items c.args.place c.requires.are.cell c.requires.are.there in omega (arith, c.args.cells.now.ok.0)

pub handle-requires : goal.handle-requires
handle-requires c =
    subst HasNoPasses
    (sym (one_cell c.args.cells.now.items c.args.place c.requires.are.cell c.index_mut-cell.result.now c.requires.are.there c.index_mut-cell.ensures.value))
    c.requires.can.without

pub in_time-requires : goal.in_time-requires
in_time-requires c =
    let i : CellInput = c.requires.input in
    let d : Cell = c.index_mut-cell.result.now in
    let same : d ≡ c.requires.are.cell =
    one_cell c.args.cells.now.items c.args.place c.requires.are.cell d c.requires.are.there c.index_mut-cell.ensures.value in
    let left : greater_stamp d i < LAST_STAMP = subst (λ (b : Cell). greater_stamp b i < LAST_STAMP) (sym same) c.requires.can.in_time in
    let is : IsInputOf d.node c.args.frame.now i = subst (λ (b : Cell). IsInputOf b.node c.args.frame.now i) (sym same) c.requires.are.is in
    IfErr-weaker c.handle.result (IsDueToBytes d c.args.frame.now) (λ (f : CellFault). f ≡ fault.OutOfMemory)
    (not_spent_bytes d c.args.frame.now i is left) c.handle.ensures.due

pub returns : goal.returns
returns c =
    on_ok_weaker c.in_time.result
    (λ ok. took_bytes c.args.cells.now.items c.args.place c.requires.are.cell c.index_mut-cell.result.now c.handle.new.self c.args.frame.now
    c.requires.are.there c.index_mut-cell.ensures.value (ok_holds c.handle.result ok c.handle.ensures.ok))
    c.in_time.ensures
