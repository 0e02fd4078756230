-- Neighbours in a set on the circle. A set is a predicate: `Contains xs` for a list xs.
use Rattle.std.specs.Prelude.{◌≡◌, ◌≤◌, ◌<◌, ◌^◌, ◌≢◌, ◌⊎◌, false}
use Rattle.ring_math.specs.Names.{Id, Key}
use Rattle.ring_math.specs.Ring.{cw_of, is_nearer}

-- y is the member to which no other is nearer, seen from the key
pub record IsClosest (P : Id → Type 0) (key : Key) (y : Id) : Type 0 where
  pub member : P y
  pub nearest : (z : Id) → P z → z ≢ y → is_nearer z y key ≡ false

-- y is the first member after x, going clockwise; x itself where it is the only one
pub record IsSucc (P : Id → Type 0) (x y : Id) : Type 0 where
  pub member : P y
  pub first : (z : Id) → P z → z ≢ x → (y ≢ x) × (cw_of x y ≤ cw_of x z)

-- y is the last member before x; x itself where it is the only one
pub record IsPred (P : Id → Type 0) (x y : Id) : Type 0 where
  pub member : P y
  pub last : (z : Id) → P z → z ≢ x → (y ≢ x) × (cw_of y x ≤ cw_of z x)

-- each member is an identifier
abbrev pub InRing : (Id → Type 0) → Type 0
InRing P = (z : Id) → P z → z < 2 ^ 128

-- the set P with i
abbrev pub with : (Id → Type 0) → Id → Id → Type 0
with P i z = P z ⊎ (z ≡ i)
