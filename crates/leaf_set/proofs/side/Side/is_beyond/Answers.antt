use Rattle.std.proofs.Common.{◌≡◌, ◌<◌, ◌-◌, ◌∙◌, length, get_or, subst, ap, arith}
use Rattle.std.proofs.lemmas.Bool.Decides.{nat_tests}
use Rattle.std.proofs.lemmas.List.{get_or_read}
use Rattle.ring_math.specs.Direction.{far}
use Rattle.leaf_set.proofs.Beyond.{all-beyond}
use Rattle.leaf_set.proofs.side.Side.is_beyond.Goals as goal

pub returns-then-distance-reach : goal.returns-then-distance-reach
returns-then-distance-reach c last_beyond =
    let ids = c.as_slice-ids.result.now in
    let xs = c.args.self.now in
    let same : ids ≡ xs = c.as_slice-ids.ensures.value in
    let size : length ids ≡ length xs = ap length same in
    let test = c.is_empty.ensures in
    let not_empty = c.if-is_empty.false in
    let some : 0 < length xs = grind (arith, nat_tests, size, test, not_empty) in
    let first : c.index-ids-0.result ≡ get_or xs 0 0 =
    get_or_read ids 0 c.index-ids-0.result (omega (arith, some, size)) c.index-ids-0.is 0 ∙ ap (λ zs. get_or zs 0 0) same in
    let last : c.index-ids-ids.result ≡ get_or xs (length xs - 1) 0 =
    get_or_read ids (length ids - 1) c.index-ids-ids.result (omega (arith, some, size)) c.index-ids-ids.is 0
    ∙ ap (λ zs. get_or zs (length zs - 1) 0) same in
    let first_beyond = c.if-distance-reach.true in
    let last_farther : c.args.reach < c.distance-then-distance-reach.result = grind (arith, nat_tests, last_beyond) in
    all-beyond c.args.me c.args.reach c.args.direction xs (omega arith) some c.requires.in_ring c.requires.rises
    (subst (λ y. c.args.reach < far c.args.me c.args.direction y) first (omega (arith, first_beyond, c.distance.ensures)))
    (subst (λ y. c.args.reach < far c.args.me c.args.direction y) last (omega (arith, last_farther, c.distance-then-distance-reach.ensures)))
