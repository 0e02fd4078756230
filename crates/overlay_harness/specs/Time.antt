-- How many entries histories have room for.
use Rattle.std.specs.Prelude.{ℕ, ◌+◌, ◌-◌, List, [], ◌∷◌, length}
use Rattle.node_cell.specs.Cell.{Cell}

-- up to these lengths of the histories of cells
abbrev pub room : List ℕ → List Cell → ℕ
room [] cells = 0
room (end ∷ ends) [] = 0
room (end ∷ ends) (c ∷ cells) = (end - length c.history) + room ends cells
