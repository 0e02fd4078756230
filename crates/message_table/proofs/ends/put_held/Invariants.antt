use Rattle.std.proofs.Common.{◌≡◌, ◌++◌, ℕ, take}
use Rattle.overlay_rules.specs.State.{State}
use Rattle.world_model.specs.Cells.{AllStand, id_at}
use Rattle.message_table.specs.Ends.{held_names}
use Rattle.message_table.specs.Labels.{spaced}
use Rattle.message_table.proofs.Held.{are_any}
use Rattle.message_table.proofs.ends.put_held.Given as goal

-- the names so far are written, and whether there are any
abbrev pub invariant-loop-file : goal.invariant-loop-file
invariant-loop-file l = record {
  names : (states : ℕ → State) → AllStand l.cells states →
      l.text ≡ l.initial.text ++ spaced (held_names (take l.file-index l.files) (states (id_at l.cells l.place)).files);
  any : (states : ℕ → State) → AllStand l.cells states →
      are_any (held_names (take l.file-index l.files) (states (id_at l.cells l.place)).files) ≡ l.any;
}
