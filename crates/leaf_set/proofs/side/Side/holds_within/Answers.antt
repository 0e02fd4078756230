use Rattle.std.proofs.Common.{◌≡◌, ◌<◌, ◌^◌, false, nat_le, sym, ◌∙◌, subst, arith}
use Rattle.std.proofs.lemmas.Bool.Decides.{nat_tests}
use Rattle.ring_math.specs.Direction.{far}
use Rattle.leaf_set.proofs.Learning.{held-reached}
use Rattle.leaf_set.proofs.side.Side.holds_within.Goals as goal

pub returns-else-distance-reach : goal.returns-else-distance-reach
returns-else-distance-reach c =
    let beyond = c.if-distance-reach.false in
    let out : nat_le c.distance.result c.args.reach ≡ false = grind (arith, nat_tests, beyond) in
    let farther : nat_le (far c.args.me c.args.direction c.args.id) c.args.reach ≡ false =
    subst (λ n. nat_le n c.args.reach ≡ false) c.distance.ensures out in
    let bound : far c.args.me c.args.direction c.args.id < 2 ^ 128 = subst (λ n. n < 2 ^ 128) c.distance.ensures c.distance.type_inv in
    out ∙ sym (held-reached (far c.args.me c.args.direction) c.args.id c.args.self.now c.requires.rises c.requires.limit
    (sym (c.requires.reach c.args.id bound) ∙ farther))
