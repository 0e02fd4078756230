use Rattle.std.proofs.Common.{◌≡◌, ◌∙◌, ◌+◌, ◌++◌, ◌∷◌, [], Some, List, All, option_map, slice_get, take, sym, subst, ap, arith}
use Rattle.std.proofs.lemmas.List.{map_more, take_all}
use Rattle.std.proofs.lemmas.List.Elements.{All-push}
use Rattle.std.proofs.lemmas.Option.{slice_get-get_or, slice_get-map}
use Rattle.wire_msg.specs.Words.{Envelope}
use Rattle.weave_laws.specs.Cells.{History}
use Rattle.node_cell.specs.Cell.{Cell}
use Rattle.weave.specs.ByStamp.{kept_in}
use Rattle.weave.specs.Cells.{histories, kept_history}
use Rattle.weave.specs.Taken.{SentMissing}
use Rattle.weave.proofs.Missing.{AreAllTaken, read_by_all, some_unread}
use Rattle.weave.proofs.Standing.{contains_get}
use Rattle.weave.proofs.reading.all_read.Goals as goal

pub loop-cell-preserved : goal.loop-cell-preserved
loop-cell-preserved c =
    let cells : List Cell = c.args.cells.now in
    let i = c.loop-cell.cell-index in
    let one : Cell = c.cell-item.result in
    let taken : List Envelope = kept_in c.in_ok-taken.taken in
    let P : History → Type 0 = λ h. AreAllTaken taken h.entries in
    let so_far : List History = histories (take i cells) in
    let next : histories (take (i + 1) cells) ≡ so_far ++ kept_history one ∷ [] =
    map_more kept_history cells i one c.loop-cell-test.true ∙ ap (λ (d : Cell). so_far ++ kept_history d ∷ []) (sym c.cell-item.is) in
    subst (All P) (sym next)
    (All-push P so_far (kept_history one) c.loop-cell.invariant
    (subst (AreAllTaken taken) c.history.ensures.value
    (c.are_all_taken.ensures.yes c.if-not-are_all_taken.false)))

pub returns-then-not-are_all_taken-clause-no : goal.returns-then-not-are_all_taken-clause-no
returns-then-not-are_all_taken-clause-no c = λ _.
    let cells : List Cell = c.args.cells.now in
    let i = c.loop-cell.cell-index in
    let one : Cell = c.cell-item.result in
    let taken : List Envelope = kept_in c.in_ok-taken.taken in
    let at : slice_get cells i ≡ Some one = slice_get-get_or cells i one c.loop-cell-test.true ∙ ap Some (sym c.cell-item.is) in
    some_unread (histories cells) taken (kept_history one) c.in_ok-taken.ensures.same
    (contains_get (histories cells) i (kept_history one) (slice_get-map kept_history cells i ∙ ap (option_map kept_history) at))
    (subst (SentMissing taken) c.history.ensures.value
    (c.are_all_taken.ensures.no c.if-not-are_all_taken.true))

pub returns-clause-yes : goal.returns-clause-yes
returns-clause-yes c = λ _ receiver.
    let taken : List Envelope = kept_in c.in_ok-taken.taken in
    read_by_all (histories c.args.cells.now) taken c.in_ok-taken.ensures.same
    (subst (λ (cells : List Cell). All (λ (h : History). AreAllTaken taken h.entries) (histories cells))
    (take_all c.loop-cell.cell-index c.args.cells.now (omega arith)) c.loop-cell.invariant) receiver
