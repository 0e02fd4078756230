use Rattle.file_store.proofs.Slots.{placed-set, rising-placed, room_left}
use Rattle.file_store.proofs.store.FileStore.set.Goals as goal

pub insert-requires-clause-room : goal.insert-requires-clause-room
insert-requires-clause-room c = (room_left c.args.self.now c.args.file c.in-Err.ensures.none c.requires).1

pub insert-requires-clause-limit : goal.insert-requires-clause-limit
insert-requires-clause-limit c = (room_left c.args.self.now c.args.file c.in-Err.ensures.none c.requires).0

pub invariant_of-self : goal.invariant_of-self
invariant_of-self c = rising-placed (placed-set _ _ c.args.slot _ _ (rw (← c.self.view_is) at c.in-Ok.ensures.found) c.replace.ensures.files) c.self.invariant

pub returns-in-Ok-clause-files : goal.returns-in-Ok-clause-files
returns-in-Ok-clause-files c =
    let placed = placed-set _ _ c.args.slot _ _ (rw (← c.self.view_is) at c.in-Ok.ensures.found) c.replace.ensures.files in
    rw (← c.self.view_is) placed.same
