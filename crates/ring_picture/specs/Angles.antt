-- Where an identifier stands in the picture, in thousandths of a degree clockwise from the top, and how long an arc is.
use Rattle.std.specs.Prelude.{ℕ, ◌*◌, ◌/◌, ◌^◌, ◌==◌, if◌then◌else◌}
use Rattle.ring_math.specs.Names.{Id}
use Rattle.ring_math.specs.Ring.{cw_of}
use Rattle.ring_picture.specs.declared.angle.TheConstants.{TURN}

-- the part of a whole turn that an identifier, or a distance, is of 2 ^ 128
abbrev pub angle_of : Id → ℕ
angle_of id = id * TURN / 2 ^ 128

-- how far it is clockwise from a to b; from a node to itself it is the whole circle
abbrev pub span_of : Id → Id → ℕ
span_of a b = if a == b then TURN else angle_of (cw_of a b)

-- how long an arc of this radius and angle is, in thousandths, with 355/113 for the half circle of radius 1: 2 * 355 / (113 * 360) is 71 / 4068
abbrev pub length_of : ℕ → ℕ → ℕ
length_of radius angle = angle * radius * 71 / 4068
