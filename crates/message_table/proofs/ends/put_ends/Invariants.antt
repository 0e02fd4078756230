use Rattle.std.proofs.Common.{◌≡◌, ◌++◌, ℕ, take}
use Rattle.std.specs.List.{flat_map}
use Rattle.overlay_rules.specs.State.{State}
use Rattle.world_model.specs.Cells.{AllStand}
use Rattle.message_table.specs.Ends.{node_end}
use Rattle.message_table.proofs.ends.put_ends.Given as goal

-- the lines so far
abbrev pub invariant-loop-place : goal.invariant-loop-place
invariant-loop-place l = (states : ℕ → State) → AllStand l.cells states →
    l.text ≡ l.initial.text ++ flat_map (node_end l.labels states) (take l.place l.labels.nodes)
