use Rattle.std.proofs.Common.{◌≡◌, ◌≤◌, ℕ, take}
use Rattle.std.specs.List.{count_by}
use Rattle.overlay_rules.specs.State.{State, is_ready}
use Rattle.world_model.specs.Cells.{AllStand, ids_of}
use Rattle.world_model.proofs.cells.ready_among.Given as goal

-- the ready ones so far are counted
abbrev pub invariant-loop-place : goal.invariant-loop-place
invariant-loop-place l = record {
  below : l.ready ≤ l.place;
  counted : (states : ℕ → State) → AllStand l.nodes states → l.ready ≡ count_by (λ x. is_ready (states x).phase) (take l.place (ids_of l.nodes));
}
