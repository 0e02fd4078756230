use Rattle.file_store.proofs.Slots.{placed-insert, rising-placed}
use Rattle.file_store.proofs.store.FileStore.insert.Goals as goal

pub invariant_of-self : goal.invariant_of-self
invariant_of-self c = rising-placed (placed-insert _ _ c.args.slot _ _ (rw (← c.self.view_is) at c.requires.place) c.insert.ensures.files) c.self.invariant

pub returns-clause-files : goal.returns-clause-files
returns-clause-files c =
    let placed = placed-insert _ _ c.args.slot _ _ (rw (← c.self.view_is) at c.requires.place) c.insert.ensures.files in
    rw (← c.self.view_is) placed.same
