-- Which keys a node covers by its links and the joiners beside it, and which it keeps for a joiner.
use Rattle.std.specs.Prelude.{◌==◌, nat_le, nat_lt, Bool, not, ◌&&◌, ◌||◌, if◌then◌else◌, Option, Some, None, is_none}
use Rattle.ring_math.specs.Names.{Id, Key}
use Rattle.ring_math.specs.Ring.{cw_of, is_between}
use Rattle.coverage.specs.declared.Reach.{Reach}

-- the end of an arc: the joiner where it stands strictly between me and the link, else the link
abbrev pub right_with : Id → Id → Option Id → Id
right_with me right None = right
right_with me right (Some j) = if is_between me j right then j else right

abbrev pub left_with : Id → Id → Option Id → Id
left_with me left None = left
left_with me left (Some j) = if is_between left j me then j else left

-- the effective right and the effective left
abbrev pub right_end : Reach → Id
right_end r = right_with r.me r.right r.right_joiner

abbrev pub left_end : Reach → Id
left_end r = left_with r.me r.left r.left_joiner

-- me, and the nearer half of the arc on each side; the half-way point goes to the node counterclockwise of it
unfoldable pub in_arcs : Id → Id → Id → Key → Bool
in_arcs me left right key =
    key == me
    || ((is_between me key right && nat_le (cw_of me key) (cw_of key right))
    || (is_between left key me && nat_lt (cw_of key me) (cw_of left key)))

-- both links are me, and nobody joins on either side
abbrev pub is_alone : Reach → Bool
is_alone r = r.left == r.me && (r.right == r.me && (is_none r.left_joiner && is_none r.right_joiner))

abbrev pub covers_of : Reach → Key → Bool
covers_of r key = in_arcs r.me (left_end r) (right_end r) key || is_alone r

-- a side's joiner, j taken from it
abbrev pub taken_of : Option Id → Id → Option Id
taken_of None j = None
taken_of (Some i) j = if i == j then None else Some i

-- the reach with j taken from each side where it stands
abbrev pub without : Reach → Id → Reach
without r j = record r { left_joiner = taken_of r.left_joiner j; right_joiner = taken_of r.right_joiner j }

-- the key is in the gap of j: without j the node covers it, and as it is it does not. Who joins on neither side has no gap
abbrev pub in_gap_of : Reach → Id → Key → Bool
in_gap_of r j key = covers_of (without r j) key && not (covers_of r key)

-- the joiner of a side, where the key is in its gap
abbrev pub gap_for : Reach → Key → Option Id → Option Id
gap_for r key None = None
gap_for r key (Some j) = if in_gap_of r j key then Some j else None

abbrev pub or_else : Option Id → Option Id → Option Id
or_else None second = second
or_else (Some x) second = Some x

-- the joiner in whose gap the key is, the right one first
abbrev pub gap_of : Reach → Key → Option Id
gap_of r key = or_else (gap_for r key r.right_joiner) (gap_for r key r.left_joiner)

-- the reach of a node beside which nobody joins
abbrev pub settled : Id → Id → Id → Reach
settled me left right = record { me = me; left = left; right = right; left_joiner = None; right_joiner = None }
