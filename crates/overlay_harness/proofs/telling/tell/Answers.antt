use Rattle.std.proofs.Common.{◌∙◌, List, All, set, sym, subst, ap}
use Rattle.std.proofs.lemmas.Option.{get_or_from_slice_get}
use Rattle.weave_laws.specs.Cells.{CellEntry, Command}
use Rattle.weave_laws.specs.Numbers.{IsNumberedAfter}
use Rattle.node_cell.specs.Cell.{Cell, with_input}
use Rattle.weave.specs.Cells.{nodes}
use Rattle.overlay_harness.proofs.Working.{IsCommandOf, comes_behind, nodes_at, told_at, told_nothing, told_nowhere}
use Rattle.overlay_harness.proofs.telling.tell.Goals as goal

pub returns-in_default-clause-told : goal.returns-in_default-clause-told
returns-in_default-clause-told c = told_nothing c.args.action.now c.args.cells.now c.in_default.ensures.none

pub returns-in_default-place_of-clause-told : goal.returns-in_default-place_of-clause-told
returns-in_default-place_of-clause-told c =
    told_nowhere c.args.action.now c.in-Some.said.node c.in-Some.said.number c.in-Some.said.command.now c.args.cells.now
    (record { is = c.in-Some.ensures.some }) c.in_default-place_of.ensures.none

pub submit-requires : goal.submit-requires
submit-requires c =
    let cells : List Cell = c.args.cells.now in
    let place = c.in-Some-place_of.place in
    let at = c.in-Some-place_of.ensures.some in
    let said = c.in-Some.said in
    subst (λ (d : Cell). All (λ (e : CellEntry). IsNumberedAfter e.input (Command said.number said.command.now)) d.history)
    (sym (get_or_from_slice_get cells place at.cell c.index-cells-place.result at.there))
    (comes_behind cells c.args.action.now at.cell place said.node said.number said.command.now c.requires.numbers at.there
    (record { is = c.in-Some.ensures.some }))

pub returns-clause-told : goal.returns-clause-told
returns-clause-told c =
    let cells : List Cell = c.args.cells.now in
    let place = c.in-Some-place_of.place in
    let at = c.in-Some-place_of.ensures.some in
    let said = c.in-Some.said in
    let own : IsCommandOf c.args.action.now at.cell.node said.number said.command.now =
    subst (λ x. IsCommandOf c.args.action.now x said.number said.command.now) (sym at.node) (record { is = c.in-Some.ensures.some }) in
    ap (set cells place)
    (c.in_ok-submit.ensures.ok
    ∙ ap (λ (d : Cell). with_input d (Command said.number said.command.now)) (get_or_from_slice_get cells place at.cell c.index-cells-place.result at.there))
    ∙ told_at cells place at.cell c.args.action.now said.number said.command.now c.requires.apart at.there own

pub returns-clause-nodes : goal.returns-clause-nodes
returns-clause-nodes c =
    let cells : List Cell = c.args.cells.now in
    let place = c.in-Some-place_of.place in
    let at = c.in-Some-place_of.ensures.some in
    let said = c.in-Some.said in
    ap (λ (d : Cell). nodes (set cells place d))
    (c.in_ok-submit.ensures.ok
    ∙ ap (λ (d : Cell). with_input d (Command said.number said.command.now)) (get_or_from_slice_get cells place at.cell c.index-cells-place.result at.there))
    ∙ nodes_at cells place at.cell (Command said.number said.command.now) at.there
