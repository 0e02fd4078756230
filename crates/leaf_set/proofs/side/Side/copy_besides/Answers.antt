use Rattle.std.proofs.Common.{◌≡◌, ◌++◌, true, not, filter, All, ap, sym, ◌∙◌}
use Rattle.ring_math.specs.Direction.{far}
use Rattle.ring_math.specs.Sides.{is_in}
use Rattle.leaf_set.proofs.Beyond.{filter-whole, far-lt, not_le}
use Rattle.leaf_set.proofs.Learning.{held-reached}
use Rattle.leaf_set.proofs.side.Side.copy_besides.Goals as goal

pub returns-then-is_beyond : goal.returns-then-is_beyond
returns-then-is_beyond c =
    let other = c.args.other.now in
    let from_me = far c.args.me c.args.direction in
    let all_beyond = c.is_beyond.ensures c.if-is_beyond.true in
    let absent : All (λ y. not (is_in other y) ≡ true) c.args.self.now = λ k d lt.
    ap not (held-reached from_me _ other c.requires.rises c.reach-reach.ensures.limit
    (sym (c.reach-reach.ensures.reach _ (far-lt c.args.me _ c.args.direction)) ∙ not_le _ _ (all_beyond k d lt))) in
    let kept : filter (λ y. not (is_in other y)) c.args.self.now ≡ c.args.self.now =
    filter-whole (λ y. not (is_in other y)) c.args.self.now absent in
    c.extend.ensures ∙ ap (λ ids. c.args.out.now ++ ids) (c.as_slice.ensures.value ∙ sym kept)
