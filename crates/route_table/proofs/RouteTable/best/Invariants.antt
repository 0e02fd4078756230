use Rattle.std.proofs.Common.{◌≡◌, take}
use Rattle.ring_math.specs.Ring.{dist_of}
use Rattle.route_table.specs.Filled.{entries_at}
use Rattle.route_table.proofs.Found.{Nearest}
use Rattle.route_table.proofs.RouteTable.best.Given as goal

abbrev pub invariant-loop-id : goal.invariant-loop-id
invariant-loop-id l = record {
  so_far : Nearest (take l.id-index (entries_at l.me l.id-items)) l.key l.least l.than l.nearest;
  distance : l.distance ≡ dist_of l.nearest l.key;
}
