use Rattle.std.proofs.Common.{◌≡◌, ◌∙◌, length, nat_le, filter, take, ap, arith}
use Rattle.std.proofs.lemmas.List.{take_all}
use Rattle.ring_math.specs.Names.{Id}
use Rattle.ring_math.specs.Direction.{far}
use Rattle.leaf_set.proofs.Places.{count-not-farther}
use Rattle.leaf_set.proofs.side.Side.place_of.Goals as goal

pub returns-clause-first : goal.returns-clause-first
returns-clause-first c =
    let ids = c.as_slice-other-items.result.now in
    let not_farther = λ (y : Id). nat_le (far c.args.me c.args.direction y) c.distance-from_me.result in
    let all : take c.loop-other.other-index ids ≡ c.args.self.now =
    take_all c.loop-other.other-index ids (omega arith) ∙ c.as_slice-other-items.ensures.value in
    rw (← c.distance-from_me.ensures)
    (c.loop-other.invariant.value ∙ ap (λ ys. length (filter not_farther ys)) all
    ∙ count-not-farther (far c.args.me c.args.direction) c.distance-from_me.result c.args.self.now c.requires)
