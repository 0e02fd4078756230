use Rattle.std.proofs.Common.{◌≡◌, ◌∙◌, ◌+◌, ◌++◌, ◌∷◌, [], List, take, ap, sym}
use Rattle.std.proofs.lemmas.List.{map_more, flat_map_more}
use Rattle.wire_msg.specs.Words.{Envelope}
use Rattle.weave_laws.specs.Cells.{CellEntry, History}
use Rattle.node_cell.specs.Cell.{Cell}
use Rattle.node_cell.specs.Entries.{plain_history}
use Rattle.weave.specs.Cells.{histories, kept_history}
use Rattle.weave.specs.Taken.{all_came, came_in}
use Rattle.weave.proofs.reading.all_taken.Goals as goal

pub loop-cell-preserved : goal.loop-cell-preserved
loop-cell-preserved c =
    let i = c.loop-cell.cell-index in
    let so_far : List History = histories (take i c.args.cells.now) in
    let one : Cell = c.cell-item.result in
    let next : histories (take (i + 1) c.args.cells.now) ≡ so_far ++ kept_history one ∷ [] =
    map_more kept_history c.args.cells.now i one c.loop-cell-test.true ∙ ap (λ (d : Cell). so_far ++ kept_history d ∷ []) (sym c.cell-item.is) in
    c.in_ok-add_taken.ensures
    ∙ ap (λ (vs : List Envelope). vs ++ came_in (plain_history c.history.result.now)) c.loop-cell.invariant
    ∙ ap (λ (es : List CellEntry). all_came so_far ++ came_in es) c.history.ensures.value
    ∙ flat_map_more (λ (h : History). came_in h.entries) [] so_far (kept_history one)
    ∙ ap all_came (sym next)
