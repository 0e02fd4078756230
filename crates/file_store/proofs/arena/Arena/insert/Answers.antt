use Rattle.std.proofs.Common.{arith}
use Rattle.file_store.proofs.Spreading.{length-spread, kept-insert, spread-new}
use Rattle.file_store.proofs.arena.Arena.insert.Goals as goal

pub invariant_of-self : goal.invariant_of-self
invariant_of-self c =
    let entries = c.self.inside.entries.items in
    let places = c.self.inside.places.items in
    let n = length-spread entries places in
    let count = c.self.invariant.count in
    let within = rw (← c.self.view_is) at c.requires.within in
    let limit = rw (← c.self.view_is) at c.requires.limit in
    rw (c.add_entry.ensures.items, c.add_head.ensures.items, c.add_place.ensures.items)
    (kept-insert entries c.self.inside.heads.items places c.args.place c.args.held c.head_of-head.result c.len-entry.result c.self.invariant (omega arith)
    (omega arith) (omega arith) c.head_of-head.ensures)

pub returns-clause-files : goal.returns-clause-files
returns-clause-files c =
    rw (c.add_entry.ensures.items, c.add_place.ensures.items, ← c.self.view_is)
    (spread-new c.self.inside.entries.items c.self.inside.places.items c.args.place c.args.held c.len-entry.result c.self.invariant.leads (omega arith))
