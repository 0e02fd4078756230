use Rattle.std.proofs.Common.{arith}
use Rattle.file_store.proofs.Spreading.{leads-read, entry-read}
use Rattle.file_store.proofs.arena.Arena.at.Goals as goal

pub index-requires-2 : goal.index-requires-2
index-requires-2 c =
    let leads = leads-read c.self.inside.entries.items c.self.inside.places.items c.args.place c.index.result.now c.self.invariant.leads
    (rw (← c.self.view_is) at c.requires) c.index.ensures in
    let within = leads in omega (arith, c.self.inside.entries.ok.0)

pub returns : goal.returns
returns c =
    rw (← c.self.view_is)
    (entry-read c.self.inside.entries.items c.self.inside.places.items c.args.place c.index.result.now c.index-2.result.now c.self.invariant.leads
    (rw (← c.self.view_is) at c.requires) c.index.ensures c.index-2.ensures)
