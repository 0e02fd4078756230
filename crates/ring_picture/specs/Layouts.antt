-- How large a ring is drawn: two sizes, by the number of its nodes.
use Rattle.std.specs.Prelude.{ℕ, ◌+◌, ◌-◌, ◌*◌, ◌/◌, ◌≤◌, nat_le, if◌then◌else◌}
use Rattle.svg_text.specs.declared.point.Point.{Point}
use Rattle.svg_text.specs.Picture.{place}
use Rattle.ring_picture.specs.declared.layout.TheConstants.{FEW, LABEL_ROOM}
use Rattle.ring_picture.specs.declared.layout.Layout.{Layout}

abbrev pub small : Layout
small = record { center = 236; radius = 160; dot = 6; tiers = 1 }

abbrev pub large : Layout
large = record { center = 470; radius = 280; dot = 4; tiers = 3 }

abbrev pub layout_of : ℕ → Layout
layout_of nodes = if nat_le nodes FEW then small else large

-- the ring is as wide as it is high
abbrev pub size_of : ℕ → ℕ
size_of nodes = 2 * (layout_of nodes).center

-- the middle of the ring, and the top of a circle round it
abbrev pub middle : Layout → Point
middle a = place a.center a.center

abbrev pub top_of : Layout → ℕ → Point
top_of a radius = place a.center (a.center - radius)

-- how far links run beside the circle
abbrev pub beside : Layout → ℕ
beside a = a.dot / 2 + 1

-- there is room within the circle for gates and keys, and without it for the labels of all tiers
pub record IsLayout (a : Layout) : Type 0 where
  pub dots : a.dot ≤ 10
  pub within : 100 ≤ a.radius
  pub tiers_some : 1 ≤ a.tiers
  pub tiers_few : a.tiers ≤ 3
  pub without : a.radius + 14 + LABEL_ROOM * a.tiers ≤ a.center
  pub limit : a.center ≤ 1000
