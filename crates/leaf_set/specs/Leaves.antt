-- What a leaf set is seen as, and the lists that it stands for.
use Rattle.std.specs.Prelude.{◌≡◌, ℕ, Bool, true, ◌||◌, List, Contains}
use Rattle.ring_math.specs.Names.{Id, Key}
use Rattle.ring_math.specs.Nearer.{improves}
use Rattle.ring_math.specs.Sides.{right_side, left_side, also_of, is_in}

-- a node and its two sides, each nearest first
pub record Leaves : Type 0 where
  pub me : Id
  pub right : List Id
  pub left : List Id

-- its sides are those of the list
pub record StandsFor (s : Leaves) (known : List Id) : Type 0 where
  pub right : s.right ≡ right_side s.me known
  pub left : s.left ≡ left_side s.me known

-- the leaves in leaf order
abbrev pub in_order : Leaves → List Id
in_order s = also_of s.right s.left

-- y stands on a side
abbrev pub holds : Leaves → Id → Bool
holds s y = is_in s.right y || is_in s.left y

-- z is in the list and improves on another
pub record Improves (ids : List Id) (key : Key) (least : ℕ) (than z : Id) : Type 0 where
  pub member : Contains ids z
  pub better : improves key least than z ≡ true
