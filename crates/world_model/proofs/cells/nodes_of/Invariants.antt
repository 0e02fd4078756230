use Rattle.std.proofs.Common.{◌≡◌, take}
use Rattle.overlay_rules.specs.Record.{world_at_start}
use Rattle.world_model.specs.Cells.{ids_of, AllStand}
use Rattle.world_model.proofs.cells.nodes_of.Given as goal

-- the nodes so far are there
abbrev pub invariant-loop-id : goal.invariant-loop-id
invariant-loop-id l = record {
  ids : ids_of l.nodes.items ≡ take l.id-index l.ids;
  stand : AllStand l.nodes.items (world_at_start (record { nodes = l.ids; founder = l.founder })).states;
}
