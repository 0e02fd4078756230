-- The numbers of the commands in histories.
use Rattle.std.specs.Prelude.{◌≡◌, ◌<◌, List, [], ◌∷◌, All, Contains}
use Rattle.ring_math.specs.Names.{Number}
use Rattle.wire_msg.specs.declared.command.Command.{Command as NodeCommand}
use Rattle.weave_laws.specs.Cells.{CellInput, CellEntry, History, Command, Comes, Noise}

-- the second command, if they are two, has the greater number
abbrev pub IsNumberedAfter : CellInput → CellInput → Type 0
IsNumberedAfter (Command m b) (Command n c) = m < n
IsNumberedAfter (Command m b) (Comes v) = Unit {0}
IsNumberedAfter (Command m b) Noise = Unit {0}
IsNumberedAfter (Comes v) i = Unit {0}
IsNumberedAfter Noise i = Unit {0}

-- along a history the numbers of its commands rise
abbrev pub NumbersRise : List CellEntry → Type 0
NumbersRise [] = Unit {0}
NumbersRise (e ∷ es) = All (λ f. IsNumberedAfter e.input f.input) es × NumbersRise es

-- a command of this number stands in the history
pub record HasNumber (es : List CellEntry) (n : Number) : Type 0 where
  pub entry : CellEntry
  pub command : NodeCommand
  pub stands : Contains es entry
  pub is : entry.input ≡ Command n command

-- no command number stands in the histories of two nodes
pub record ShareNoNumber (hs : List History) : Type 0 where
  pub one_node : (h k : History) (n : Number) → Contains hs h → Contains hs k → HasNumber h.entries n → HasNumber k.entries n → h.node ≡ k.node
