use Rattle.std.proofs.Common.{ℕ, Some, subst}
use Rattle.std.specs.Prelude.{◌↔◌}
use Rattle.std.specs.List.{Contains}
use Rattle.route_table.specs.Entries.{Table}
use Rattle.route_table.specs.Filled.{entries_at}
use Rattle.route_table.proofs.Places.{contains_all}
use Rattle.route_table.proofs.RouteTable.filled.Goals as goal

pub returns : goal.returns
returns c =
    rw c.as_slice.ensures.value
    (subst (λ (t : Table). (z : ℕ) → Contains t.entries (Some z) ↔ Contains (entries_at t.me c.self.inside.ids.items) (Some z))
    c.self.view_is (contains_all c.self.inside.me c.self.inside.ids.items))
