use Rattle.std.proofs.Common.{arith, ◌≡◌, ◌<◌, length, sym, ◌∙◌}
use Rattle.file_store.specs.Places.{place_of}
use Rattle.file_store.proofs.Slots.{place-within, stands, goes_in, goes_in-end, slot-goes_in}
use Rattle.file_store.proofs.store.FileStore.search.Goals as goal

pub at-requires : goal.at-requires
at-requires c =
    let p : c.place-place.result ≡ place_of c.self.inside.arena.files c.args.file.now = rw (← c.self.view_is) at c.place-place.ensures in
    omega (arith, place-within c.self.inside.arena.files c.args.file.now)

pub returns-then-place-len-clause-absent : goal.returns-then-place-len-clause-absent
returns-then-place-len-clause-absent c =
    rw (← c.self.view_is) (goes_in-end c.self.inside.arena.files c.args.file.now c.place-place.result (rw (← c.self.view_is) at c.place-place.ensures)
    (omega arith))

pub returns-then-is_same-clause-found : goal.returns-then-is_same-clause-found
returns-then-is_same-clause-found c =
    let p : c.place-place.result ≡ place_of c.self.inside.arena.files c.args.file.now = rw (← c.self.view_is) at c.place-place.ensures in
    let within : c.place-place.result < length c.self.inside.arena.files = omega (arith, place-within c.self.inside.arena.files c.args.file.now) in
    rw (← c.self.view_is) (stands c.self.inside.arena.files c.args.file.now c.place-place.result c.at.result.now p within c.at.ensures
    (sym c.is_same.ensures ∙ c.if-is_same.true))

pub returns-else-is_same-clause-absent : goal.returns-else-is_same-clause-absent
returns-else-is_same-clause-absent c =
    let p : c.place-place.result ≡ place_of c.self.inside.arena.files c.args.file.now = rw (← c.self.view_is) at c.place-place.ensures in
    let within : c.place-place.result < length c.self.inside.arena.files = omega (arith, place-within c.self.inside.arena.files c.args.file.now) in
    rw (← c.self.view_is) (goes_in c.self.inside.arena.files c.args.file.now c.place-place.result c.at.result.now p within c.at.ensures
    (sym c.is_same.ensures ∙ c.if-is_same.false))

pub returns-then-place-len-clause-none : goal.returns-then-place-len-clause-none
returns-then-place-len-clause-none c =
    let absent = goes_in-end c.self.inside.arena.files c.args.file.now c.place-place.result (rw (← c.self.view_is) at c.place-place.ensures) (omega arith) in
    rw (← c.self.view_is) (slot-goes_in c.self.inside.arena.files c.args.file.now c.place-place.result absent c.self.invariant)

pub returns-else-is_same-clause-none : goal.returns-else-is_same-clause-none
returns-else-is_same-clause-none c =
    let p : c.place-place.result ≡ place_of c.self.inside.arena.files c.args.file.now = rw (← c.self.view_is) at c.place-place.ensures in
    let within : c.place-place.result < length c.self.inside.arena.files = omega (arith, place-within c.self.inside.arena.files c.args.file.now) in
    let absent = goes_in c.self.inside.arena.files c.args.file.now c.place-place.result c.at.result.now p within c.at.ensures
    (sym c.is_same.ensures ∙ c.if-is_same.false) in
    rw (← c.self.view_is) (slot-goes_in c.self.inside.arena.files c.args.file.now c.place-place.result absent c.self.invariant)
