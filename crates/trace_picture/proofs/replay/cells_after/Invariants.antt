use Rattle.std.proofs.Common.{◌≡◌, length, take}
use Rattle.overlay_rules.specs.Record.{sent_in, world_after}
use Rattle.step_facts.specs.Setting.{setting}
use Rattle.world_model.specs.Cells.{AllStand, ids_of}
use Rattle.trace_picture.proofs.replay.cells_after.Given as goal

-- the nodes stand for the states after the entries so far, and so many messages were sent
abbrev pub invariant-loop-place : goal.invariant-loop-place
invariant-loop-place l = record {
  ids : ids_of l.cells ≡ l.nodes;
  stand : AllStand l.cells (world_after (setting l.nodes l.fn.founder) l.entries l.place).states;
  sent_so_far : l.sent ≡ length (sent_in (take l.place l.entries));
}
