-- What is drawn of a course, and where it stands: the nodes side by side, and the entries of a window below one another.
use Rattle.std.specs.Prelude.{ℕ, ◌+◌, ◌-◌, ◌*◌, ◌/◌, min, nat_le, nat_lt, Bool, ◌&&◌, if◌then◌else◌, List, length, count_by}
use Rattle.std.specs.List.{range_with_len}
use Rattle.ring_math.specs.Names.{Id}
use Rattle.wire_msg.specs.declared.limits.TheConstants.{MOST_COPIES}
use Rattle.svg_text.specs.Labels.{rank_in}
use Rattle.course_picture.specs.declared.sizes.TheConstants.{GAP, HALF_COLUMN, HOLDER, LEFT, ROW, SPREAD, TOP, WORDS}

-- the nodes, and the places of the entries: from the first on, up to the one that is not drawn any more
pub record Board : Type 0 where
  pub nodes : List Id
  pub first : ℕ
  pub stop : ℕ

-- whether the entry at a place is one of the window
abbrev pub is_drawn : Board → ℕ → Bool
is_drawn b p = nat_le b.first p && nat_lt p b.stop

-- the places of the window, in order
abbrev pub places : Board → List ℕ
places b = range_with_len b.first (b.stop - b.first)

-- half the way from a lifeline to the next
abbrev pub half_of : List Id → ℕ
half_of nodes = HALF_COLUMN + SPREAD / (length nodes + 1)

-- how many of these are not greater
abbrev pub not_above_in : List Id → Id → ℕ
not_above_in ids id = count_by (λ x. nat_le x id) ids

-- nodes stand in the order of their identifiers; what is no node's would stand half way between two of them
abbrev pub x_of : Board → Id → ℕ
x_of b id = LEFT + half_of b.nodes * (rank_in b.nodes id + not_above_in b.nodes id)

-- where the columns end
abbrev pub right_of : List Id → ℕ
right_of nodes = LEFT + half_of nodes * (2 * length nodes)

-- the row of an entry, from 1 on; what came before the window is at its upper edge, and what comes behind it at its lower edge
abbrev pub row_of : Board → ℕ → ℕ
row_of b p = if nat_lt p b.first then 0 else min p b.stop - b.first + 1

abbrev pub y_of : Board → ℕ → ℕ
y_of b p = TOP + ROW * row_of b p

-- how much room words have: the longest name all nodes that hold a file
abbrev pub words_width : List Id → ℕ
words_width nodes = WORDS + HOLDER * min (length nodes) MOST_COPIES

-- how large the picture is, of so many entries
abbrev pub width_of : List Id → ℕ
width_of nodes = right_of nodes + GAP + words_width nodes

abbrev pub height_of : ℕ → ℕ
height_of rows = TOP + ROW * (rows + 2)
