use Rattle.std.proofs.Common.{◌≡◌, ◌≢◌, subst, set, sym, ap, ◌∙◌, Some}
use Rattle.route_table.specs.Entries.{Table, with_entry}
use Rattle.route_table.specs.Filled.{all_entries}
use Rattle.route_table.proofs.Places.{all_entries-filled}
use Rattle.route_table.proofs.RouteTable.fill.Goals as goal

pub returns-clause-filled : goal.returns-clause-filled
returns-clause-filled c =
    let me = c.self.inside.me in
    let ids = c.self.inside.ids.items in
    subst (λ (t : Table). record { me = me; entries = all_entries me (set c.lengthen.new.ids.items c.place_of-place.result c.args.id) }
    ≡ with_entry t c.args.row c.args.col c.args.id) c.self.view_is
    (ap (λ is. record { me = me; entries = all_entries me (set is c.place_of-place.result c.args.id) }) c.lengthen.ensures.items
    ∙ ap (λ es. record { me = me; entries = es }) (all_entries-filled me ids c.place_of-place.result c.args.id
    c.self.invariant.0 c.place_of-place.ensures.within
    (subst (λ (t : Table). c.args.id ≢ t.me) (sym c.self.view_is) c.requires.other))
    ∙ ap (λ k. record { me = me; entries = set (all_entries me ids) k (Some c.args.id) }) c.place_of-place.ensures.value)
