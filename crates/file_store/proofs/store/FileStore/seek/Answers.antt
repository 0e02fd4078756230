use Rattle.file_store.proofs.Slots.{slot-stands}
use Rattle.file_store.proofs.store.FileStore.seek.Goals as goal

pub returns-in-Ok-clause-found : goal.returns-in-Ok-clause-found
returns-in-Ok-clause-found c = rw (← c.self.view_is) (slot-stands c.self.inside.arena.files c.args.file.now c.in-Ok.place c.at.result.now
    (rw (← c.self.view_is) at c.in-Ok.ensures.found) c.at.ensures)
