use Rattle.route_table.proofs.Places.{stands-empty}
use Rattle.route_table.proofs.RouteTable.new.Goals as goal

pub returns-clause-stands : goal.returns-clause-stands
returns-clause-stands c = stands-empty c.args.me c.in_ok-ids.ids.items c.in_ok-ids.ensures.items
