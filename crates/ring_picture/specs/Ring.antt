-- The ring: the circle of identifiers, links and gates, the keys of files with their owners, and the nodes.
use Rattle.std.specs.Prelude.{ℕ, List, length}
use Rattle.ring_math.specs.Names.{Id, Key}
use Rattle.overlay_rules.specs.State.{State}
use Rattle.svg_text.specs.declared.class.Class.TheVariants as class
use Rattle.svg_text.specs.Picture.{Picture, Then, Circle, each_of}
use Rattle.ring_picture.specs.declared.layout.Layout.{Layout}
use Rattle.ring_picture.specs.declared.seat.Seat.{Seat}
use Rattle.ring_picture.specs.Captions.{caption_picture, legend_picture}
use Rattle.ring_picture.specs.Keys.{key_picture}
use Rattle.ring_picture.specs.Layouts.{layout_of, middle}
use Rattle.ring_picture.specs.Nodes.{node_picture}
use Rattle.ring_picture.specs.Seats.{ready_ids, seats_of}
use Rattle.ring_picture.specs.Sides.{sides_picture}

-- what lies below the nodes
abbrev pub lines_picture : Layout → List Seat → List Id → List Key → Picture
lines_picture a seats ready keys =
    Then (Circle class.Ring (middle a) a.radius) (Then (each_of (sides_picture a) seats) (each_of (key_picture a ready keys) keys))

-- the nodes, and what is said of them
abbrev pub dots_picture : Layout → List Id → List Seat → ℕ → ℕ → Picture
dots_picture a nodes seats ready after =
    Then (each_of (node_picture a nodes) seats) (Then (caption_picture a after ready (length nodes)) legend_picture)

abbrev pub seats_picture : Layout → List Id → List Seat → List Id → List Key → ℕ → Picture
seats_picture a nodes seats ready keys after = Then (lines_picture a seats ready keys) (dots_picture a nodes seats (length ready) after)

-- nodes in these states, after so many entries, and these keys
abbrev pub ring_picture : List Id → (Id → State) → List Key → ℕ → Picture
ring_picture nodes states keys after =
    let seats = seats_of states nodes in seats_picture (layout_of (length nodes)) nodes seats (ready_ids seats) keys after
