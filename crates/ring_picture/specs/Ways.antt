-- Arrows along the circle.
use Rattle.std.specs.Prelude.{ℕ, ◌+◌, ◌-◌, ◌*◌}
use Rattle.ring_math.specs.Names.{Id}
use Rattle.ring_math.specs.declared.direction.Direction.{Direction}
use Rattle.ring_math.specs.declared.direction.Direction.TheVariants.{Clockwise, Counterclockwise}
use Rattle.svg_text.specs.declared.class.Class.{Class}
use Rattle.svg_text.specs.Picture.{Picture, Then, Turned, Arc, Triangle, place}
use Rattle.ring_picture.specs.declared.layout.Layout.{Layout}
use Rattle.ring_picture.specs.declared.way.Track.{Track}
use Rattle.ring_picture.specs.Angles.{angle_of, span_of, length_of}
use Rattle.ring_picture.specs.Layouts.{beside, middle, top_of}

-- a part of the circle of this radius, from one angle on clockwise by another
abbrev pub arc_picture : Layout → Class → ℕ → ℕ → ℕ → Picture
arc_picture a class radius from angle = Turned from (middle a) (Arc class (top_of a radius) radius (length_of radius angle))

-- a head that comes to a node at the top, from the left or from the right
abbrev pub head_at_top : Layout → Class → ℕ → Direction → Picture
head_at_top a class y Clockwise =
    Triangle class (place (a.center - (2 * a.dot + 2)) (y - beside a)) (place (a.center - a.dot) y) (place (a.center - (2 * a.dot + 2)) (y + beside a))
head_at_top a class y Counterclockwise =
    Triangle class (place (a.center + (2 * a.dot + 2)) (y - beside a)) (place (a.center + a.dot) y) (place (a.center + (2 * a.dot + 2)) (y + beside a))

-- the arc of an arrow from x to y, which is drawn clockwise also where the arrow goes the other way
abbrev pub way_arc : Layout → Track → Direction → Id → Id → Picture
way_arc a track Clockwise x y = arc_picture a track.class track.radius (angle_of x) (span_of x y)
way_arc a track Counterclockwise x y = arc_picture a track.class track.radius (angle_of y) (span_of y x)

-- an arrow along a track from x to y
abbrev pub way_picture : Layout → Track → Direction → Id → Id → Picture
way_picture a track direction x y =
    Then (way_arc a track direction x y) (Turned (angle_of y) (middle a) (head_at_top a track.head (a.center - track.radius) direction))
