use Rattle.std.proofs.Common.{sym, ap, ◌∙◌, arith}
use Rattle.std.proofs.lemmas.Result.{on_ok_weaker}
use Rattle.fetch_cache.proofs.Telling.{sent_before_last, tells_last, told_by_node}
use Rattle.fetch_cache.proofs.player.tell_last.Goals as goal

pub slice_bounds-before-count : goal.slice_bounds-before-count
slice_bounds-before-count c =
    let long = sent_before_last c.args.entries.now c.in-Some.place c.at-entry.result c.sent-sent.result.now (omega (arith, c.len.ensures))
    c.at-entry.ensures c.sent-sent.ensures in omega arith

pub returns-in-Some-node_of : goal.returns-in-Some-node_of
returns-in-Some-node_of c =
    on_ok_weaker c.tell_all.result
    (λ is before e whole. is ∙ sym (tells_last c.args.fetches.now c.args.entries.now before e c.in-Some.place _ c.at-entry.result c.sent-sent.result.now
    c.args.points.now whole (omega (arith, c.len.ensures)) c.at-entry.ensures c.sent-sent.ensures (omega arith) ∙
    ap (λ o. told_by_node c.args.fetches.now o c.at-entry.result.notes.now c.args.points.now) (sym c.node_of.ensures ∙ c.in-Some-node_of.is)))
    c.tell_all.ensures

pub returns-in-None : goal.returns-in-None
returns-in-None c = λ before e whole.
    sym (tells_last c.args.fetches.now c.args.entries.now before e c.in-Some.place _ c.at-entry.result c.sent-sent.result.now
    c.args.points.now whole (omega (arith, c.len.ensures)) c.at-entry.ensures c.sent-sent.ensures (omega arith) ∙
    ap (λ o. told_by_node c.args.fetches.now o c.at-entry.result.notes.now c.args.points.now) (sym c.node_of.ensures ∙ c.in-None.is))
