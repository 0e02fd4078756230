-- How far it is round the circle, one way or the other, and how far a side of a leaf set reaches.
use Rattle.std.specs.Prelude.{ℕ, Bool, ◌-◌, ◌||◌, nat_lt, nat_le, List, length, slice_index}
use Rattle.ring_math.specs.Names.{Id, Key}
use Rattle.ring_math.specs.Ring.{cw_of}
use Rattle.ring_math.specs.declared.limits.TheConstants.{LEAVES_PER_SIDE}
use Rattle.ring_math.specs.declared.direction.Direction.{Direction}
use Rattle.ring_math.specs.declared.direction.Direction.TheVariants.{Clockwise, Counterclockwise}

-- how far it is from me to y, going that way
abbrev pub far : Id → Direction → Id → ℕ
far me Clockwise = λ y. cw_of me y
far me Counterclockwise = λ y. cw_of y me

-- a side has fewer than it can hold, or the key is no farther than the last of them
abbrev pub reaches : Id → Direction → List Id → Key → Bool
reaches me direction side key =
    nat_lt (length side) LEAVES_PER_SIDE || nat_le (far me direction key) (far me direction (slice_index side (LEAVES_PER_SIDE - 1)))
