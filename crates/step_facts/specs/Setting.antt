-- The setting of a record, from the nodes and the founder that a caller names.
use Rattle.std.specs.Prelude.{List}
use Rattle.ring_math.specs.Names.{Id}
use Rattle.overlay_rules.specs.Record.{Setting}

abbrev pub setting : List Id → Id → Setting
setting nodes founder = record { nodes = nodes; founder = founder }
