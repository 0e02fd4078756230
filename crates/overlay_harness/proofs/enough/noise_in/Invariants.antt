use Rattle.std.proofs.Common.{◌≡◌, ◌≤◌, take}
use Rattle.std.specs.List.{count_by}
use Rattle.node_cell.specs.Entries.{plain_input_of}
use Rattle.node_cell.specs.declared.entry.CellEntry.{CellEntry}
use Rattle.overlay_harness.specs.Inputs.{is_noise}
use Rattle.overlay_harness.proofs.enough.noise_in.Given as goal

-- the noise so far
abbrev pub invariant-loop-entry : goal.invariant-loop-entry
invariant-loop-entry l = record {
  few : l.count ≤ l.entry-index;
  counted : l.count ≡ count_by (λ (e : CellEntry). is_noise (plain_input_of e.input)) (take l.entry-index l.history);
}
