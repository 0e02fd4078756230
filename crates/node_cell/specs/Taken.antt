-- A cell that took in bytes.
use Rattle.std.specs.Prelude.{◌≡◌, ◌<◌, ℕ, List}
use Rattle.weave_laws.specs.Cells.{CellInput}
use Rattle.node_cell.specs.declared.fault.CellFault.{CellFault}
use Rattle.node_cell.specs.declared.fault.TheConstants.{LAST_STAMP}
use Rattle.node_cell.specs.Cell.{Cell, with_input}
use Rattle.node_cell.specs.Faults.{IsDueTo, greater_stamp}
use Rattle.node_cell.specs.Reading.{IsInputOf}

-- the bytes are one input to the cell's node, and this input was taken in
pub record TookBytes (before : Cell) (bytes : List ℕ) (after : Cell) : Type 0 where
  pub input : CellInput
  pub is : IsInputOf before.node bytes input
  pub in_time : greater_stamp before input < LAST_STAMP
  pub took : after ≡ with_input before input

-- whichever input the bytes are
abbrev pub IsDueToBytes : Cell → List ℕ → CellFault → Type 0
IsDueToBytes c bytes fault = (i : CellInput) → IsInputOf c.node bytes i → IsDueTo c i fault
