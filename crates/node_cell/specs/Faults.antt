-- When a cell's stamps are spent.
use Rattle.std.specs.Prelude.{◌≡◌, max}
use Rattle.ring_math.specs.Names.{Stamp}
use Rattle.weave_laws.specs.Cells.{CellInput, input_stamp}
use Rattle.node_cell.specs.declared.fault.CellFault.{CellFault}
use Rattle.node_cell.specs.declared.fault.CellFault.TheVariants as fault
use Rattle.node_cell.specs.declared.fault.TheConstants.{LAST_STAMP}
use Rattle.node_cell.specs.Cell.{Cell, stamp_of}

-- the greater of the cell's stamp and the input's
abbrev pub greater_stamp : Cell → CellInput → Stamp
greater_stamp c i = max (stamp_of c) (input_stamp i)

-- stamps are spent exactly where the greater one, of the stamp so far and the input's, is the last
abbrev pub IsDueAt : Stamp → CellInput → CellFault → Type 0
IsDueAt last i (fault.Spent stamp) = (stamp ≡ LAST_STAMP) × (max last (input_stamp i) ≡ LAST_STAMP)
IsDueAt last i fault.OutOfMemory = Unit {0}

-- of a cell
abbrev pub IsDueTo : Cell → CellInput → CellFault → Type 0
IsDueTo c i f = IsDueAt (stamp_of c) i f
