-- The links and the gates of a ready node: links on both sides of the circle, gates within it.
use Rattle.std.specs.Prelude.{◌+◌, ◌-◌, ◌*◌, Option, Some, None}
use Rattle.ring_math.specs.Names.{Id}
use Rattle.ring_math.specs.declared.direction.Direction.{Direction}
use Rattle.ring_math.specs.declared.direction.Direction.TheVariants.{Clockwise, Counterclockwise}
use Rattle.coverage.specs.declared.Reach.{Reach}
use Rattle.svg_text.specs.declared.class.Class.TheVariants as class
use Rattle.svg_text.specs.Picture.{Picture, Blank, Then}
use Rattle.ring_picture.specs.declared.layout.Layout.{Layout}
use Rattle.ring_picture.specs.declared.seat.Seat.{Seat}
use Rattle.ring_picture.specs.declared.way.Track.{Track}
use Rattle.ring_picture.specs.Layouts.{beside}
use Rattle.ring_picture.specs.Ways.{way_picture}

-- links to the right run without the circle, and those to the left within it
abbrev pub link_track : Layout → Direction → Track
link_track a Clockwise = record { class = class.Link; head = class.LinkHead; radius = a.radius + beside a }
link_track a Counterclockwise = record { class = class.Link; head = class.LinkHead; radius = a.radius - beside a }

abbrev pub gate_track : Layout → Track
gate_track a = record { class = class.Gate; head = class.GateHead; radius = a.radius - 5 * beside a }

abbrev pub link_picture : Layout → Direction → Id → Id → Picture
link_picture a direction x y = way_picture a (link_track a direction) direction x y

-- the gate of x on a side, if there is one
abbrev pub gate_picture : Layout → Direction → Id → Option Id → Picture
gate_picture a direction x None = Blank
gate_picture a direction x (Some joiner) = way_picture a (gate_track a) direction x joiner

abbrev pub reach_picture : Layout → Reach → Picture
reach_picture a r =
    Then (Then (link_picture a Clockwise r.me r.right) (link_picture a Counterclockwise r.me r.left))
    (Then (gate_picture a Clockwise r.me r.right_joiner) (gate_picture a Counterclockwise r.me r.left_joiner))

-- nothing of a node that is not ready
abbrev pub reached_picture : Layout → Option Reach → Picture
reached_picture a None = Blank
reached_picture a (Some r) = reach_picture a r

abbrev pub sides_picture : Layout → Seat → Picture
sides_picture a s = reached_picture a s.reach
