use Rattle.std.proofs.Common.{◌≡◌, ◌∙◌, ◌+◌, ◌++◌, ◌∷◌, [], List, All, take, sym, subst, ap, arith}
use Rattle.std.proofs.lemmas.List.{take_more, take_all}
use Rattle.std.proofs.lemmas.List.Elements.{All-push}
use Rattle.node_cell.specs.Cell.{Cell}
use Rattle.weave.specs.Cells.{IsLawful}
use Rattle.overlay_harness.proofs.cells.cells_law.Goals as goal

pub loop-cell-preserved : goal.loop-cell-preserved
loop-cell-preserved c =
    let so_far : List Cell = take c.loop-cell.cell-index c.args.cells.now in
    let one : Cell = c.cell-item.result in
    let next : take (c.loop-cell.cell-index + 1) c.args.cells.now ≡ so_far ++ one ∷ [] =
    take_more c.args.cells.now c.loop-cell.cell-index one c.loop-cell-test.true
    ∙ ap (λ (d : Cell). so_far ++ d ∷ []) (sym c.cell-item.is) in
    subst (All IsLawful) (sym next)
    (All-push IsLawful so_far one c.loop-cell.invariant
    (record { history = c.history-history.ensures.cell; numbers = c.history-history.ensures.numbers }))

pub returns : goal.returns
returns c = subst (All IsLawful) (take_all c.loop-cell.cell-index c.args.cells.now (omega arith)) c.loop-cell.invariant
