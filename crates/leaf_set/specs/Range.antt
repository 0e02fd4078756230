-- The keys that the sides of a leaf set reach, and whom it has yet to learn.
use Rattle.std.specs.Prelude.{Bool, not, ◌&&◌, ◌||◌, ◌==◌}
use Rattle.ring_math.specs.Names.{Id, Key}
use Rattle.ring_math.specs.Direction.{reaches}
use Rattle.ring_math.specs.declared.direction.Direction.TheVariants.{Clockwise, Counterclockwise}
use Rattle.leaf_set.specs.Leaves.{Leaves, holds}

-- one of the sides reaches the key
abbrev pub is_in_range : Leaves → Key → Bool
is_in_range s key = reaches s.me Clockwise s.right key || reaches s.me Counterclockwise s.left key

-- y is another than the node, on no side, and reached by one
abbrev pub lacks : Leaves → Id → Bool
lacks s y = not (y == s.me) && is_in_range s y && not (holds s y)
