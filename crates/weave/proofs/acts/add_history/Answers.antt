use Rattle.std.proofs.Common.{◌≡◌, ◌∙◌, ◌<◌, ◌++◌, ◌∷◌, [], List, take, length, ap, sym, append_assoc, arith}
use Rattle.std.proofs.lemmas.List.{length-take-le, take_more}
use Rattle.weave_laws.specs.Cells.{CellEntry}
use Rattle.weave.specs.declared.acts.Act.{Act}
use Rattle.weave.specs.Placed.{acts_from, entry_at, no_entry}
use Rattle.weave.proofs.Placing.{acts_from-push}
use Rattle.weave.proofs.acts.add_history.Goals as goal

pub loop-place-preserved : goal.loop-place-preserved
loop-place-preserved g c =
    let place = c.loop-place.place in
    let entries : List CellEntry = (g.S.Strand.history c.args.strand.now).entries in
    let one : CellEntry = entry_at entries place in
    let so_far : List CellEntry = take place entries in
    let before : List Act = c.args.acts.now.items in
    let lt : place < length entries = omega arith in
    let long : length so_far ≡ place = length-take-le place entries (omega arith) in
    let stamp : c.stamp_of.result ≡ one.stamp = c.stamp_of.ensures ∙ ap (λ (e : CellEntry). e.stamp) c.entry.ensures in
    record {
      acts = c.push_reserved.ensures.items
          ∙ ap (λ (acts : List Act). acts ++ record { stamp = c.stamp_of.result; history = c.args.history; place = place } ∷ []) c.loop-place.invariant.acts
          ∙ ap (λ n. (before ++ acts_from c.args.history 0 so_far) ++ record { stamp = n; history = c.args.history; place = place } ∷ []) stamp
          ∙ append_assoc before (acts_from c.args.history 0 so_far) (record { stamp = one.stamp; history = c.args.history; place = place } ∷ [])
          ∙ ap (λ (acts : List Act). before ++ acts)
          (sym (ap (acts_from c.args.history 0) (take_more entries place no_entry lt)
          ∙ acts_from-push c.args.history 0 so_far one place (omega (arith, long))));
      room = omega arith;
    }
