use Rattle.std.proofs.Common.{◌≡◌, ◌∙◌, ◌+◌, ◌++◌, ◌∷◌, [], Some, List, All, Contains, map, option_map, slice_get, take, sym, subst, ap, arith}
use Rattle.std.proofs.lemmas.List.{map_more, take_all}
use Rattle.std.proofs.lemmas.List.Elements.{All-push}
use Rattle.std.proofs.lemmas.Option.{slice_get-get_or, slice_get-map}
use Rattle.wire_msg.specs.Words.{Envelope}
use Rattle.weave_laws.specs.Cells as plain
use Rattle.node_cell.specs.declared.entry.CellEntry.{CellEntry}
use Rattle.node_cell.specs.Entries.{plain_entry, plain_history}
use Rattle.weave.specs.ByStamp.{kept_in}
use Rattle.weave.specs.Taken.{HasMissing}
use Rattle.weave.proofs.Missing.{AreAllTaken}
use Rattle.weave.proofs.reading.are_all_taken.Goals as goal

pub loop-entry-preserved : goal.loop-entry-preserved
loop-entry-preserved c =
    let taken : List Envelope = kept_in c.args.taken.now in
    let so_far : List plain.CellEntry = map plain_entry (take c.loop-entry.entry-index c.args.history.now) in
    let one : CellEntry = c.entry-item.result in
    let next : map plain_entry (take (c.loop-entry.entry-index + 1) c.args.history.now) ≡ so_far ++ plain_entry one ∷ [] =
    map_more plain_entry c.args.history.now c.loop-entry.entry-index one c.loop-entry-test.true
    ∙ ap (λ (e : CellEntry). so_far ++ plain_entry e ∷ []) (sym c.entry-item.is) in
    subst (AreAllTaken taken) (sym next)
    (All-push (λ (e : plain.CellEntry). All (Contains taken) e.sent) so_far (plain_entry one) c.loop-entry.invariant
    (subst (All (Contains taken)) c.as_slice.ensures (c.are_taken.ensures.yes c.if-not-are_taken.false)))

pub returns-then-not-are_taken-clause-no : goal.returns-then-not-are_taken-clause-no
returns-then-not-are_taken-clause-no c = λ _.
    let taken : List Envelope = kept_in c.args.taken.now in
    let one : CellEntry = c.entry-item.result in
    let i = c.loop-entry.entry-index in
    let at : slice_get c.args.history.now i ≡ Some one = slice_get-get_or c.args.history.now i one c.loop-entry-test.true ∙ ap Some (sym c.entry-item.is) in
    record {
      place = i;
      entry = plain_entry one;
      there = slice_get-map plain_entry c.args.history.now i ∙ ap (option_map plain_entry) at;
      missing = subst (HasMissing taken) c.as_slice.ensures (c.are_taken.ensures.no c.if-not-are_taken.true);
    }

pub returns-clause-yes : goal.returns-clause-yes
returns-clause-yes c = λ _. subst (λ (es : List CellEntry). AreAllTaken (kept_in c.args.taken.now) (plain_history es))
    (take_all c.loop-entry.entry-index c.args.history.now (omega arith)) c.loop-entry.invariant
