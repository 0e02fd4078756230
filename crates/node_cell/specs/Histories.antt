-- The histories of several cells.
use Rattle.std.specs.Prelude.{List, map}
use Rattle.weave_laws.specs.Cells.{History}
use Rattle.node_cell.specs.Cell.{Cell}

abbrev pub kept_history : Cell → History
kept_history c = record { node = c.node; entries = c.history }

abbrev pub histories : List Cell → List History
histories cells = map kept_history cells
