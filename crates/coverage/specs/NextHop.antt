-- Where a ready node sends what is for a key, by its reach and the identifiers that it knows.
use Rattle.std.specs.Prelude.{Bool, ◌&&◌, ◌||◌, nat_le, if◌then◌else◌, Option, Some, None, List, ◌++◌, filter}
use Rattle.ring_math.specs.Names.{Id, Key}
use Rattle.ring_math.specs.Ring.{is_nearer, digit_of, shared_of}
use Rattle.ring_math.specs.Direction.{reaches}
use Rattle.ring_math.specs.declared.direction.Direction.TheVariants.{Clockwise, Counterclockwise}
use Rattle.ring_math.specs.Sides.{right_side, left_side, leaves, entry_of, entries_of}
use Rattle.coverage.specs.declared.Reach.{Reach}
use Rattle.coverage.specs.declared.Hop.{Hop}
use Rattle.coverage.specs.declared.Hop.TheVariants.{Here, Gap, To}
use Rattle.coverage.specs.Coverage.{covers_of, gap_of}
use Rattle.coverage.specs.Closest.{closest_in}

-- one of the sides reaches the key
abbrev pub in_leaf_range : Id → List Id → Key → Bool
in_leaf_range me known key =
    reaches me Clockwise (right_side me known) key || reaches me Counterclockwise (left_side me known) key

-- the leaf that no leaf is nearer than; a node that knows nobody has nowhere to send
abbrev pub to_nearest : Option Id → Hop
to_nearest None = Here
to_nearest (Some y) = To y

abbrev pub to_leaf : Id → List Id → Key → Hop
to_leaf me known key = to_nearest (closest_in key (leaves me known))

-- y shares at least as many digits with the key as me, and is nearer to it
abbrev pub is_better : Id → Key → Id → Bool
is_better me key y = nat_le (shared_of me key) (shared_of y key) && is_nearer y me key

-- the nearest of the better leaves and entries, else the nearest leaf
abbrev pub to_better : Id → List Id → Key → Option Id → Hop
to_better me known key (Some y) = To y
to_better me known key None = to_leaf me known key

abbrev pub to_any : Id → List Id → Key → Hop
to_any me known key =
    to_better me known key (closest_in key (filter (is_better me key) (leaves me known ++ entries_of me known)))

-- the entry where it is nearer than me, else any better
abbrev pub to_entry : Id → List Id → Key → Option Id → Hop
to_entry me known key None = to_any me known key
to_entry me known key (Some y) = if is_nearer y me key then To y else to_any me known key

abbrev pub by_prefix : Id → List Id → Key → Hop
by_prefix me known key = to_entry me known key (entry_of me known (shared_of me key) (digit_of key (shared_of me key)))

-- the way to a key that me neither covers nor keeps for a joiner
abbrev pub onward : Id → List Id → Key → Hop
onward me known key = if in_leaf_range me known key then to_leaf me known key else by_prefix me known key

abbrev pub unless_gap : Reach → List Id → Key → Option Id → Hop
unless_gap r known key (Some j) = Gap j
unless_gap r known key None = onward r.me known key

abbrev pub next_hop_of : Reach → List Id → Key → Hop
next_hop_of r known key = if covers_of r key then Here else unless_gap r known key (gap_of r key)
