use Rattle.std.proofs.Common.{◌<◌, ◌==◌, length, set, get_or, ap, sym, ◌∙◌, arith}
use Rattle.std.proofs.lemmas.List.{get_or_default}
use Rattle.overlay_rules.specs.Joining.{answered_by}
use Rattle.join_core.proofs.Listed.{length-mapped, marked, mapped-more}
use Rattle.join_core.proofs.probed.Probed.hear.Goals as goal

pub loop-place-preserved : goal.loop-place-preserved
loop-place-preserved c =
    let f = answered_by c.args.sender in
    let items = c.loop-place.self-inside.items.items in
    let i = c.loop-place.place in
    let probe = c.index_mut.result.now in
    let whole : i < length c.args.self.now = omega (arith, c.loop-place-test.true, c.len-place-end.ensures, ap length c.self.view_is) in
    let within : i < length items = omega (arith, whole, ap length c.loop-place.invariant, length-mapped f i c.args.self.now) in
    let same = c.index.ensures ∙ get_or_default items i c.index.result.now probe within ∙ sym c.index_mut.ensures.value in
    ap (λ p. set items i p)
    (sym (marked probe.0 c.args.sender probe.1 c.eq-is_senders.result (c.eq-is_senders.ensures ∙ ap (λ p. p.0 == c.args.sender) same))
    ∙ ap f c.index_mut.ensures.value)
    ∙ ap (λ xs. set xs i (f (get_or xs i probe))) c.loop-place.invariant
    ∙ mapped-more f i c.args.self.now probe whole
