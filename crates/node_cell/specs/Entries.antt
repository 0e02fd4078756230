-- A cell's history as the definitions see it.
use Rattle.std.specs.Prelude.{List, map}
use Rattle.wire_msg.specs.Words.{plain_envelope}
use Rattle.weave_laws.specs.Cells as plain
use Rattle.node_cell.specs.declared.entry.CellInput.{CellInput}
use Rattle.node_cell.specs.declared.entry.CellInput.TheVariants as code
use Rattle.node_cell.specs.declared.entry.CellEntry.{CellEntry}

abbrev pub plain_input_of : CellInput → plain.CellInput
plain_input_of (code.Command n c) = plain.Command n c
plain_input_of (code.Comes v) = plain.Comes (plain_envelope v)
plain_input_of code.Noise = plain.Noise

abbrev pub plain_entry : CellEntry → plain.CellEntry
plain_entry e = record { stamp = e.stamp; input = plain_input_of e.input; sent = e.sent; notes = e.notes }

abbrev pub plain_history : List CellEntry → List plain.CellEntry
plain_history es = map plain_entry es
