-- What a step of a process made of what it was told.
use Rattle.std.specs.Prelude.{◌≡◌, false, true, map}
use Rattle.weave_laws.specs.Cells.{CellInput}
use Rattle.node_cell.specs.declared.fault.CellFault.{CellFault}
use Rattle.node_cell.specs.declared.fault.CellFault.TheVariants as fault
use Rattle.node_cell.specs.declared.live.Taken.{Taken}
use Rattle.node_cell.specs.Cell.{frame_of}
use Rattle.node_cell.specs.Entries.{plain_entry}
use Rattle.node_lines.specs.declared.told.Told.{Told}
use Rattle.node_process.specs.Talk.{Talk, Process, IsAsFar, IsInputTold, is_spent, entry_of, after_input}

-- it was taken in, as the node's cell would
pub record Stepped (t : Talk) (tell : Told) (taken : Taken) (after : Process) : Type 0 where
  pub input : CellInput
  pub is : IsInputTold t tell input
  pub in_time : is_spent t input ≡ false
  pub entry : plain_entry taken.entry ≡ entry_of t input
  pub frames : taken.frames.items ≡ map frame_of (entry_of t input).sent
  pub far : IsAsFar after (after_input t tell input)

-- it is an input for which no stamp is left
pub record IsSpentTold (t : Talk) (tell : Told) : Type 0 where
  pub input : CellInput
  pub is : IsInputTold t tell input
  pub spent : is_spent t input ≡ true

-- why it was not taken in
abbrev pub IsDueToTold : Talk → Told → CellFault → Type 0
IsDueToTold t tell (fault.Spent stamp) = IsSpentTold t tell
IsDueToTold t tell fault.OutOfMemory = Unit {0}
