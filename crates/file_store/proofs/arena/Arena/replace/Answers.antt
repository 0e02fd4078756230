use Rattle.std.proofs.Common.{refl, arith}
use Rattle.file_store.proofs.Spreading.{leads-read, kept-set, slot-set}
use Rattle.file_store.proofs.arena.Arena.replace.Goals as goal

pub change_slot-requires : goal.change_slot-requires
change_slot-requires c =
    let leads = leads-read c.self.inside.entries.items c.self.inside.places.items c.args.place c.index.result.now c.self.invariant.leads
    (rw (← c.self.view_is) at c.requires) c.index.ensures in
    let within = leads in omega (arith, c.self.inside.entries.ok.0)

pub invariant_of-self : goal.invariant_of-self
invariant_of-self c =
    rw c.change_slot.ensures.items (kept-set c.self.inside.entries.items c.self.inside.heads.items c.self.inside.places.items c.index.result.now _
    c.self.invariant refl)

pub returns-clause-files : goal.returns-clause-files
returns-clause-files c =
    rw (c.change_slot.ensures.items, ← c.self.view_is)
    (slot-set c.self.inside.entries.items c.self.inside.places.items c.args.place c.index.result.now c.args.slot c.self.invariant.leads
    c.self.invariant.apart (rw (← c.self.view_is) at c.requires) c.index.ensures)
