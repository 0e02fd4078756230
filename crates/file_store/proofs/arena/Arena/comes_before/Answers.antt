use Rattle.std.proofs.Common.{◌≡◌, ap, sym, ◌∙◌, arith}
use Rattle.std.proofs.lemmas.List.{get_or_default}
use Rattle.ring_math.specs.declared.file.Held.{Held}
use Rattle.ring_math.specs.Bytewise.{is_before}
use Rattle.file_store.specs.Spread.{blank, entry_at}
use Rattle.file_store.proofs.Spreading.{leads-read, spread-read, head-read, head-decides}
use Rattle.file_store.proofs.arena.Arena.comes_before.Goals as goal

pub index-requires-2 : goal.index-requires-2
index-requires-2 c =
    let leads = leads-read c.self.inside.entries.items c.self.inside.places.items c.args.place c.index.result.now c.self.invariant.leads
    (rw (← c.self.view_is) at c.requires) c.index.ensures in
    omega (arith, c.self.inside.heads.ok.0)

pub returns-then-found-sought : goal.returns-then-found-sought
returns-then-found-sought c = λ (d : Held).
    let entries = c.self.inside.entries.items in
    let entry = c.index.result.now in
    let within = rw (← c.self.view_is) at c.requires in
    let leads = leads-read entries c.self.inside.places.items c.args.place entry c.self.invariant.leads within c.index.ensures in
    let read = spread-read entries c.self.inside.places.items c.args.place entry d within c.index.ensures in
    let head = head-read entries c.self.inside.heads.items entry c.index-2.result.now c.self.invariant.begins leads c.index-2.ensures in
    rw (← c.self.view_is)
    (head-decides _ c.args.file.now c.index-2.result.now c.head_of-sought.result head c.head_of-sought.ensures c.if-found-sought.true
    ∙ ap (λ (h : Held). is_before h.file c.args.file.now) (sym read))

pub index-requires-3 : goal.index-requires-3
index-requires-3 c =
    let leads = leads-read c.self.inside.entries.items c.self.inside.places.items c.args.place c.index.result.now c.self.invariant.leads
    (rw (← c.self.view_is) at c.requires) c.index.ensures in
    omega (arith, c.self.inside.entries.ok.0)

pub returns : goal.returns
returns c = λ (d : Held).
    let entries = c.self.inside.entries.items in
    let entry = c.index.result.now in
    let within = rw (← c.self.view_is) at c.requires in
    let leads = leads-read entries c.self.inside.places.items c.args.place entry c.self.invariant.leads within c.index.ensures in
    let read = spread-read entries c.self.inside.places.items c.args.place entry d within c.index.ensures in
    let same : c.index-3.result.now ≡ entry_at entries entry = c.index-3.ensures ∙ get_or_default entries entry c.index-3.result.now blank leads in
    rw (← c.self.view_is) (c.comes_before.ensures ∙ ap (λ (h : Held). is_before h.file c.args.file.now) (same ∙ sym read))
