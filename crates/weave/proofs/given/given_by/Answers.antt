use Rattle.std.proofs.Common.{◌∙◌, ◌++◌, ◌∷◌, [], append_assoc, List, ap, sym}
use Rattle.std.proofs.lemmas.List.{map-append}
use Rattle.std.proofs.lemmas.List.Elements.{All-push}
use Rattle.std.specs.Vec.Iter.{into_iter_items}
use Rattle.node_cell.specs.Cell.{Cell}
use Rattle.weave_laws.specs.Cells.{History}
use Rattle.weave.specs.Cells.{IsLawful, histories, kept_history}
use Rattle.weave.proofs.given.given_by.Goals as goal

pub loop-cell-preserved : goal.loop-cell-preserved
loop-cell-preserved c =
    let so_far : List Cell = c.loop-cell.yielded in
    let one : Cell = c.in-Some.cell in
    record {
      all = c.loop-cell.invariant.all ∙ ap (λ (cs : List Cell). so_far ++ cs) c.in-Some.ensures.steps.0
          ∙ sym (append_assoc so_far (one ∷ []) (into_iter_items c.next.new.self));
      history = c.in_ok-push.ensures.items
          ∙ ap (λ (hs : List History). hs ++ c.of.result ∷ []) c.loop-cell.invariant.history
          ∙ ap (λ (h : History). histories so_far ++ h ∷ []) c.of.ensures.history
          ∙ sym (map-append kept_history so_far (one ∷ []));
      lawful = All-push IsLawful so_far one c.loop-cell.invariant.lawful c.of.ensures.lawful;
    }
