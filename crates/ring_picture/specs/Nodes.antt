-- A node: a dot, and its label along the radius, in a tier of its own beside those next to it.
use Rattle.std.specs.Prelude.{ℕ, Bool, ◌+◌, ◌-◌, ◌*◌, ◌%◌, ◌==◌, nat_lt, if◌then◌else◌, List}
use Rattle.ring_math.specs.Names.{Id}
use Rattle.ring_math.specs.Texts as texts
use Rattle.svg_text.specs.declared.class.Class.{Class}
use Rattle.svg_text.specs.declared.class.Class.TheVariants as class
use Rattle.svg_text.specs.Labels.{short_of, rank_in}
use Rattle.svg_text.specs.Picture.{Picture, Blank, Then, Turned, Titled, Line, Circle, Words, place}
use Rattle.ring_picture.specs.declared.layout.TheConstants.{LABEL_ROOM}
use Rattle.ring_picture.specs.declared.layout.Layout.{Layout}
use Rattle.ring_picture.specs.declared.seat.Seat.{Seat}
use Rattle.ring_picture.specs.Angles.{angle_of}
use Rattle.ring_picture.specs.Layouts.{middle, top_of}
use Rattle.ring_picture.specs.Seats.{is_ready}

abbrev pub tier_of : Layout → List Id → Id → ℕ
tier_of a nodes x = rank_in nodes x % a.tiers

-- the radius at which labels of a tier begin
abbrev pub label_radius : Layout → ℕ → ℕ
label_radius a tier = a.radius + 14 + LABEL_ROOM * tier

-- how a label is turned so that it can be read: outwards on the right half of the circle, and inwards on the left half
abbrev pub label_turn : Id → ℕ
label_turn x = if nat_lt (angle_of x) 180000 then 270000 else 90000

abbrev pub label_class : Id → Class
label_class x = if nat_lt (angle_of x) 180000 then class.Label else class.LabelEnd

-- the first digits of x at this radius, at the top
abbrev pub label_picture : Layout → ℕ → Id → Picture
label_picture a radius x =
    Turned (label_turn x) (top_of a radius) (Words (label_class x) (place a.center (a.center - radius + 3)) (short_of x))

-- a light line to a label that does not begin beside its node
abbrev pub guide_picture : Layout → ℕ → Picture
guide_picture a tier =
    if tier == 0 then Blank else Line class.Guide (top_of a (a.radius + a.dot + 2)) (top_of a (label_radius a tier - 2))

abbrev pub dot_class : Bool → Class
dot_class ready = if ready then class.Ready else class.Joiner

-- a dot that is filled where the node is ready
abbrev pub dot_picture : Layout → Seat → Picture
dot_picture a s = Circle (dot_class (is_ready s)) (top_of a a.radius) a.dot

-- a node that stands at the top: its dot and its label
abbrev pub marks_picture : Layout → ℕ → Seat → Picture
marks_picture a tier s = Then (guide_picture a tier) (Then (dot_picture a s) (label_picture a (label_radius a tier) s.id))

-- at its angle, with its whole identifier as title
abbrev pub node_in_tier : Layout → ℕ → Seat → Picture
node_in_tier a tier s = Titled (texts.text_of s.id) (Turned (angle_of s.id) (middle a) (marks_picture a tier s))

abbrev pub node_picture : Layout → List Id → Seat → Picture
node_picture a nodes s = node_in_tier a (tier_of a nodes s.id) s
