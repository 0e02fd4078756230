-- How an arrow is drawn: from the lifeline of the sender to that of the receiver, or to a cross.
use Rattle.std.specs.Prelude.{◌+◌, ◌-◌, ◌/◌, ◌==◌, if◌then◌else◌, Some}
use Rattle.svg_text.specs.declared.class.Class.{Class}
use Rattle.svg_text.specs.declared.class.Class.TheVariants as class
use Rattle.svg_text.specs.declared.point.Point.{Point}
use Rattle.svg_text.specs.Picture.{Picture, Then, Titled, Line, place}
use Rattle.course_picture.specs.declared.fate.Fate.{Fate}
use Rattle.course_picture.specs.declared.fate.Fate.TheVariants as fate
use Rattle.course_picture.specs.declared.sizes.TheConstants.{HALF_ROW, LOOP, RADIUS}
use Rattle.course_picture.specs.Arrows.{Arrow}
use Rattle.course_picture.specs.Board.{Board, x_of, y_of}
use Rattle.course_picture.specs.Words.{message_words}

-- the entry that sent the message, on its node's lifeline, and where the message comes to its receiver's
abbrev pub start_of : Board → Arrow → Point
start_of b a = place (x_of b a.envelope.sender) (y_of b a.sent)

abbrev pub end_of : Board → Arrow → Point
end_of b a = place (x_of b a.envelope.receiver) (y_of b a.reached)

-- a line of the class with a head, and those that lead to it, if there are any
abbrev pub way : Class → Class → Point → Point → Picture
way head part from to =
    if from.x == to.x
    then Then (Line part from (place (from.x + LOOP) from.y))
    (Then (Line part (place (from.x + LOOP) from.y) (place (to.x + LOOP) to.y)) (Line head (place (to.x + LOOP) to.y) to))
    else Line head from to

-- half way to the receiver, and half a row down
abbrev pub lost_end : Board → Arrow → Point
lost_end b a = place ((x_of b a.envelope.sender + x_of b a.envelope.receiver) / 2) (y_of b a.sent + HALF_ROW)

abbrev pub cross : Point → Picture
cross at =
    Then (Line class.Cross (place (at.x - RADIUS) (at.y - RADIUS)) (place (at.x + RADIUS) (at.y + RADIUS)))
    (Line class.Cross (place (at.x - RADIUS) (at.y + RADIUS)) (place (at.x + RADIUS) (at.y - RADIUS)))

abbrev pub way_of : Board → Arrow → Fate → Picture
way_of b a fate.First = way class.Sent class.SentPart (start_of b a) (end_of b a)
way_of b a fate.Again = way class.Again class.AgainPart (start_of b a) (end_of b a)
way_of b a fate.Lost = Then (Line class.Lost (start_of b a) (lost_end b a)) (cross (lost_end b a))

-- with the message's number and kind as its title
abbrev pub arrow_picture : Board → Arrow → Picture
arrow_picture b a = Titled (message_words a.number (Some a.envelope)) (way_of b a a.fate)
