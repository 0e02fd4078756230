use Rattle.std.proofs.Common.{◌≡◌, ◌<◌, All, sym, subst, arith}
use Rattle.std.proofs.lemmas.Option.{slice_get_within}
use Rattle.std.proofs.lemmas.Result.{IfErr-weaker, on_ok_weaker}
use Rattle.weave_laws.specs.Cells as plain
use Rattle.weave_laws.specs.Cells.{CellInput}
use Rattle.weave_laws.specs.Numbers.{IsNumberedAfter}
use Rattle.node_cell.specs.declared.fault.CellFault.{CellFault}
use Rattle.node_cell.specs.declared.fault.CellFault.TheVariants as fault
use Rattle.node_cell.specs.declared.fault.TheConstants.{LAST_STAMP}
use Rattle.node_cell.specs.Cell.{Cell}
use Rattle.node_cell.specs.Faults.{IsDueTo, greater_stamp}
use Rattle.weave.proofs.Taking.{not_spent, ok_holds, one_cell, took_at}
use Rattle.weave.proofs.relay.submit_at.Goals as goal

pub index_mut-cell-requires : goal.index_mut-cell-requires
index_mut-cell-requires c =
    let within = slice_get_within c.args.cells.now.items c.args.place c.requires.cell c.requires.there in omega (arith, c.args.cells.now.ok.0)

pub submit-requires : goal.submit-requires
submit-requires c =
    let i : CellInput = plain.Command c.args.number c.args.command.now in
    subst (λ (d : Cell). All (λ e. IsNumberedAfter e.input i) d.history)
    (sym (one_cell c.args.cells.now.items c.args.place c.requires.cell c.index_mut-cell.result.now c.requires.there c.index_mut-cell.ensures.value))
    c.requires.can.numbered

pub in_time-requires : goal.in_time-requires
in_time-requires c =
    let i : CellInput = plain.Command c.args.number c.args.command.now in
    let d : Cell = c.index_mut-cell.result.now in
    let left : greater_stamp d i < LAST_STAMP =
    subst (λ (b : Cell). greater_stamp b i < LAST_STAMP)
    (sym (one_cell c.args.cells.now.items c.args.place c.requires.cell d c.requires.there c.index_mut-cell.ensures.value)) c.requires.can.in_time in
    IfErr-weaker c.submit.result (IsDueTo d i) (λ (f : CellFault). f ≡ fault.OutOfMemory) (not_spent d i left) c.submit.ensures.due

pub returns : goal.returns
returns c =
    let i : CellInput = plain.Command c.args.number c.args.command.now in
    on_ok_weaker c.in_time.result
    (λ ok. took_at c.args.cells.now.items c.args.place c.requires.cell c.index_mut-cell.result.now c.submit.new.self i c.requires.there
    c.index_mut-cell.ensures.value (ok_holds c.submit.result ok c.submit.ensures.ok))
    c.in_time.ensures
