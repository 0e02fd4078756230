use Rattle.std.proofs.Common.{arith, sym, ◌∙◌, ◌≤◌, length, ◌+◌, ◌-◌, min, ap}
use Rattle.std.proofs.lemmas.List.{length-take}
use Rattle.ring_math.specs.declared.limits.TheConstants.{LEAVES_PER_SIDE}
use Rattle.ring_math.specs.Direction.{far}
use Rattle.leaf_set.proofs.Places.{side-placed, side-stays, is_in-put_in}
use Rattle.leaf_set.proofs.side.Side.place.Goals as goal

pub returns-then-place-eq-LEAVES_PER_SIDE-clause-placed : goal.returns-then-place-eq-LEAVES_PER_SIDE-clause-placed
returns-then-place-eq-LEAVES_PER_SIDE-clause-placed c =
    side-stays (far c.args.me c.args.direction) LEAVES_PER_SIDE c.args.self.now c.args.id
    (omega (arith, c.place_of-place.ensures.within, c.place_of-place.ensures.limit)) (sym c.if-place-eq-LEAVES_PER_SIDE.true ∙ c.place_of-place.ensures.first)

pub returns-clause-placed : goal.returns-clause-placed
returns-clause-placed c =
    let within = c.place_of-place.ensures.within in
    let limit = c.place_of-place.ensures.limit in
    rw (c.min-self-inside.ensures, c.put_in.ensures.value)
    (side-placed (far c.args.me c.args.direction) (LEAVES_PER_SIDE - 1) c.self.inside.len c.place_of-place.result c.self.inside.ids c.args.self.now c.args.id
    c.put_in.ensures.size c.self.view_is within (omega arith) c.place_of-place.ensures.first)

pub returns-clause-answer : goal.returns-clause-answer
returns-clause-answer c = λ _.
    let within = c.place_of-place.ensures.within in
    let limit = c.place_of-place.ensures.limit in
    let short : length c.args.self.now ≤ c.self.inside.len = omega (arith, length-take c.self.inside.len c.self.inside.ids, ap length c.self.view_is) in
    rw (c.min-self-inside.ensures, c.put_in.ensures.value)
    (sym (is_in-put_in c.place_of-place.result _ (min LEAVES_PER_SIDE (c.self.inside.len + 1)) c.self.inside.ids c.args.id (omega arith)
    (omega (arith, c.put_in.ensures.size))))
