-- The circle of identifiers, the numbers from 0 to 2 ^ 128 - 1.
use Rattle.std.specs.Prelude.{ℕ, zero, suc, ◌+◌, ◌-◌, ◌/◌, ◌%◌, ◌^◌, min, ◌==◌, nat_lt, Bool, not, ◌&&◌, ◌||◌, if◌then◌else◌}
use Rattle.ring_math.specs.Names.{Id, Key}
use Rattle.ring_math.specs.declared.limits.TheConstants.{DIGITS, DIGIT_VALUES}

-- how far it is from a clockwise to b
unfoldable pub cw_of : Id → Id → ℕ
cw_of a b = (b + 2 ^ 128 - a) % 2 ^ 128

-- how far a and b are apart, the shorter way
abbrev pub dist_of : Id → Id → ℕ
dist_of a b = min (cw_of a b) (cw_of b a)

-- whether x is met strictly between a and b, going clockwise; with a = b every x but a is
unfoldable pub is_between : Id → Id → Id → Bool
is_between a x b = not (x == a) && (a == b || (not (x == b) && nat_lt (cw_of a x) (cw_of a b)))

-- whether a is nearer to the key than b; of two at one distance it is the one counterclockwise of the key
unfoldable pub is_nearer : Id → Id → Key → Bool
is_nearer a b key =
    nat_lt (dist_of a key) (dist_of b key) || (dist_of a key == dist_of b key && nat_lt (cw_of a key) (cw_of b key))

-- digit `row` of an identifier, row 0 being the leftmost
abbrev pub digit_of : Id → ℕ → ℕ
digit_of id row = id / DIGIT_VALUES ^ (DIGITS - 1 - row) % DIGIT_VALUES

-- how many of the last n digits are alike before the first that differs
abbrev pub shared_in_last : ℕ → Id → Id → ℕ
shared_in_last zero a b = 0
shared_in_last (suc n) a b = if a / DIGIT_VALUES ^ n % DIGIT_VALUES == b / DIGIT_VALUES ^ n % DIGIT_VALUES then 1 + shared_in_last n a b else 0

-- how many leading digits a and b have in common
unfoldable pub shared_of : Id → Id → ℕ
shared_of a b = shared_in_last DIGITS a b
