use Rattle.std.proofs.Common.{◌≡◌, ◌∙◌, ◌+◌, ◌++◌, ◌∷◌, [], Bor, List, All, map, take, ap, sym, subst}
use Rattle.std.proofs.lemmas.List.{map-append, take_more}
use Rattle.std.proofs.lemmas.List.Elements.{All-push}
use Rattle.node_cell.specs.declared.cell.NodeCell.{NodeCell}
use Rattle.node_cell.specs.Cell.{Cell}
use Rattle.weave_laws.specs.Cells.{History}
use Rattle.weave.specs.Cells.{IsLawful, histories, kept_history}
use Rattle.weave.proofs.strand.lent_by.Goals as goal

pub loop-cell-preserved : goal.loop-cell-preserved
loop-cell-preserved c =
    let so_far : List Cell = take c.loop-cell.cell-index c.args.cells.now in
    let one : Cell = c.cell-item.result in
    let next : take (c.loop-cell.cell-index + 1) c.args.cells.now ≡ so_far ++ one ∷ [] =
    take_more c.args.cells.now c.loop-cell.cell-index one c.loop-cell-test.true
    ∙ ap (λ (d : Cell). so_far ++ d ∷ []) (sym c.cell-item.is) in
    record {
      history = ap (map (λ (d : Bor NodeCell). kept_history d.now)) c.in_ok-push.ensures.items
          ∙ map-append (λ (d : Bor NodeCell). kept_history d.now) c.loop-cell.strands.items _
          ∙ ap (λ (hs : List History). hs ++ kept_history one ∷ []) c.loop-cell.invariant.history
          ∙ sym (map-append kept_history so_far (one ∷ []))
          ∙ sym (ap histories next);
      lawful = subst (All IsLawful) (sym next) (All-push IsLawful so_far one c.loop-cell.invariant.lawful c.lawful_law.ensures);
    }
