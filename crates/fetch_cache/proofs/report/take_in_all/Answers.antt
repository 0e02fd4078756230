use Rattle.std.proofs.Common.{◌+◌, ◌∷◌, [], None, sym, ◌∙◌, ap, get_or, arith}
use Rattle.std.specs.Option.{option_or, option_copied}
use Rattle.fetch_cache.specs.Text.{hit_of}
use Rattle.fetch_cache.proofs.Hitting.{hit_of-more, option_or_assoc}
use Rattle.fetch_cache.proofs.report.take_in_all.Goals as goal

pub loop-hit-preserved : goal.loop-hit-preserved
loop-hit-preserved c k within =
    let hits = c.args.hits.now in
    let i = c.loop-hit.hit-index in
    let last = c.hit-item.result in
    let first = option_copied (get_or c.args.slots.now k None) in
    c.take_in.ensures k (omega arith) ∙ ap (λ o. option_or o (hit_of (k + 1) (last ∷ []))) (c.loop-hit.invariant k within) ∙
    option_or_assoc first _ _ ∙ ap (option_or first) (sym (hit_of-more (k + 1) hits i last c.loop-hit-test.true c.hit-item.is))
