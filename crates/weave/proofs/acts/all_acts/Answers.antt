use Rattle.std.proofs.Common.{◌≡◌, ◌∙◌, ◌<◌, ◌++◌, [], ℕ, List, All, map, take, length, ap, sym, subst, arith}
use Rattle.std.proofs.lemmas.List.{flat_map_more, length-map, map-append, take_more}
use Rattle.std.proofs.lemmas.List.Elements.{All-append}
use Rattle.weave_laws.specs.Cells.{CellEntry, History}
use Rattle.weave.specs.declared.acts.Act.{Act}
use Rattle.weave.specs.Placed.{IsWithin, Placed, acts_from, all_placed, history_at, placed, placed_in}
use Rattle.weave.proofs.Placing.{all-within, placed-history}
use Rattle.weave.proofs.Strands.{at_map}
use Rattle.weave.proofs.acts.all_acts.Goals as goal

pub loop-history-preserved : goal.loop-history-preserved
loop-history-preserved g c =
    let hs : List History = map g.S.Strand.history c.args.strands.now in
    let n : ℕ = c.loop-history.history in
    let so_far : List Act = c.loop-history.acts.items in
    let lt : n < length hs = let long = length-map c.args.strands.now g.S.Strand.history in omega arith in
    let own : (g.S.Strand.history c.index-strands-history.result).entries ≡ (history_at hs n).entries =
    ap (λ (h : History). h.entries)
    (sym (at_map g.S.Strand.history c.args.strands.now n c.index-strands-history.result (omega arith) c.index-strands-history.is)) in
    let items : c.add_history.new.acts.items ≡ so_far ++ acts_from n 0 (history_at hs n).entries =
    c.in_ok-add_history.ensures ∙ ap (λ (es : List CellEntry). so_far ++ acts_from n 0 es) own in
    record {
      acts = ap (map (placed hs)) items
          ∙ map-append (placed hs) so_far (acts_from n 0 (history_at hs n).entries)
          ∙ ap (λ (ps : List Placed). ps ++ map (placed hs) (acts_from n 0 (history_at hs n).entries)) c.loop-history.invariant.acts
          ∙ ap (λ (ps : List Placed). all_placed (take n hs) ++ ps) (placed-history hs n lt)
          ∙ flat_map_more placed_in [] (take n hs) (history_at hs n)
          ∙ ap all_placed (sym (take_more hs n (record { node = 0; entries = [] }) lt));
      within = subst (All (IsWithin hs)) (sym items)
          (All-append (IsWithin hs) so_far (acts_from n 0 (history_at hs n).entries) c.loop-history.invariant.within (all-within hs n lt));
    }
