-- The key of a file: a triangle within the circle, its label inwards in a tier of its own, and an arrow to its owner.
use Rattle.std.specs.Prelude.{ℕ, ◌+◌, ◌-◌, ◌*◌, ◌==◌, nat_le, nat_lt, if◌then◌else◌, Option, Some, None, List}
use Rattle.ring_math.specs.Names.{Id, Key}
use Rattle.ring_math.specs.Ring.{cw_of}
use Rattle.ring_math.specs.Texts as texts
use Rattle.svg_text.specs.declared.class.Class.{Class}
use Rattle.svg_text.specs.declared.class.Class.TheVariants as class
use Rattle.svg_text.specs.Labels.{short_of}
use Rattle.svg_text.specs.Picture.{Picture, Blank, Then, Turned, Titled, Line, Triangle, Words, place}
use Rattle.ring_picture.specs.declared.keys.TheConstants.{KEY_ROOM}
use Rattle.ring_picture.specs.declared.layout.TheConstants.{LABEL_ROOM}
use Rattle.ring_picture.specs.declared.layout.Layout.{Layout}
use Rattle.ring_picture.specs.Angles.{angle_of}
use Rattle.ring_picture.specs.Layouts.{middle, top_of}
use Rattle.ring_picture.specs.Nodes.{label_turn, tier_of}
use Rattle.ring_picture.specs.Seats.{owner_of}
use Rattle.ring_picture.specs.Ways.{arc_picture}

abbrev pub key_radius : Layout → ℕ
key_radius a = a.radius - KEY_ROOM

-- along the circle from the key to its owner, the shorter way
abbrev pub along_picture : Layout → Key → Id → Picture
along_picture a key y =
    if nat_le (cw_of key y) (cw_of y key) then arc_picture a class.Owner (key_radius a) (angle_of key) (angle_of (cw_of key y))
    else arc_picture a class.Owner (key_radius a) (angle_of y) (angle_of (cw_of y key))

-- and then outwards to it
abbrev pub outwards_picture : Layout → Id → Picture
outwards_picture a y = Turned (angle_of y) (middle a) (Line class.OwnerHead (top_of a (key_radius a)) (top_of a (a.radius - (a.dot + 1))))

abbrev pub owner_picture : Layout → Key → Option Id → Picture
owner_picture a key None = Blank
owner_picture a key (Some y) = Then (along_picture a key y) (outwards_picture a y)

abbrev pub key_class : Key → Class
key_class key = if nat_lt (angle_of key) 180000 then class.FaintEnd else class.Faint

-- the first digits of a key, inwards, where its mark stands at this height at the top
abbrev pub key_label : Layout → ℕ → Key → Picture
key_label a y key = Turned (label_turn key) (place a.center (y + 7)) (Words (key_class key) (place a.center (y + 10)) (short_of key))

-- a light line to a label that does not begin beside its mark
abbrev pub key_guide : Layout → ℕ → ℕ → Picture
key_guide a y tier = if tier == 0 then Blank else Line class.Guide (place a.center (y + 5)) (place a.center (y + 5 + LABEL_ROOM * tier))

-- the triangle of a key that stands at the top, and its label
abbrev pub mark_picture : Layout → ℕ → ℕ → Key → Picture
mark_picture a y tier key =
    Then (Triangle class.Key (place a.center (y - 5)) (place (a.center + 5) (y + 3)) (place (a.center - 5) (y + 3)))
    (Then (key_guide a y tier) (key_label a (y + LABEL_ROOM * tier) key))

-- at its angle, with all its digits as title
abbrev pub titled_key : Layout → ℕ → Key → Picture
titled_key a tier key = Titled (texts.text_of key) (Turned (angle_of key) (middle a) (mark_picture a (a.center - key_radius a) tier key))

abbrev pub key_in_tier : Layout → List Id → ℕ → Key → Picture
key_in_tier a ready tier key = Then (owner_picture a key (owner_of ready key)) (titled_key a tier key)

-- one of these keys
abbrev pub key_picture : Layout → List Id → List Key → Key → Picture
key_picture a ready keys key = key_in_tier a ready (tier_of a keys key) key
