-- The texts of single pieces. Each is closed where it was opened.
use Rattle.std.specs.Prelude.{ℕ, ◌*◌, List, ◌++◌, codes, decimal}
use Rattle.svg_text.specs.declared.class.Class.{Class}
use Rattle.svg_text.specs.declared.point.Point.{Point}
use Rattle.svg_text.specs.Classes.{class_text}
use Rattle.svg_text.specs.Escaped.{escaped}
use Rattle.svg_text.specs.Thousandths.{thousandths_text}

-- how far a place is to the right and downwards, each behind a word
abbrev pub place_text : List ℕ → List ℕ → Point → List ℕ
place_text across down at = across ++ decimal at.x ++ down ++ decimal at.y

abbrev pub line_text : Class → Point → Point → List ℕ
line_text class from to =
    codes "<line class='" ++ class_text class ++ place_text (codes "' x1='") (codes "' y1='") from ++ place_text (codes "' x2='") (codes "' y2='") to
    ++ codes "'/>\n"

abbrev pub circle_text : Class → Point → ℕ → List ℕ
circle_text class center radius =
    codes "<circle class='" ++ class_text class ++ place_text (codes "' cx='") (codes "' cy='") center
    ++ (codes "' r='" ++ decimal radius ++ codes "'/>\n")

abbrev pub rect_text : Class → Point → Point → List ℕ
rect_text class corner size =
    codes "<rect class='" ++ class_text class ++ place_text (codes "' x='") (codes "' y='") corner ++ place_text (codes "' width='") (codes "' height='") size
    ++ codes "'/>\n"

-- a corner of a triangle, behind a word
abbrev pub corner_text : List ℕ → Point → List ℕ
corner_text word at = place_text word (codes ",") at

abbrev pub triangle_text : Class → Point → Point → Point → List ℕ
triangle_text class a b c =
    codes "<polygon class='" ++ class_text class ++ corner_text (codes "' points='") a ++ (corner_text (codes " ") b ++ corner_text (codes " ") c)
    ++ codes "'/>\n"

-- half a circle, downwards behind one word and upwards behind the other
abbrev pub half_text : List ℕ → ℕ → List ℕ
half_text word radius = codes " a" ++ decimal radius ++ codes "," ++ decimal radius ++ codes " 0 1 1 0" ++ word ++ decimal (2 * radius)

-- a dash of a length in thousandths, and a gap that is longer than the circle
abbrev pub dash_text : ℕ → List ℕ
dash_text length = codes "' stroke-dasharray='" ++ thousandths_text length ++ codes " 9999'/>\n"

-- of a circle, clockwise from its top on, as much as this length
abbrev pub arc_text : Class → Point → ℕ → ℕ → List ℕ
arc_text class top radius length =
    codes "<path class='" ++ class_text class ++ corner_text (codes "' d='M") top ++ (half_text (codes ",") radius ++ half_text (codes ",-") radius)
    ++ dash_text length

abbrev pub words_text : Class → Point → List ℕ → List ℕ
words_text class at words =
    codes "<text class='" ++ class_text class ++ place_text (codes "' x='") (codes "' y='") at ++ (codes "'>" ++ escaped words ++ codes "</text>\n")

-- how groups begin, and how each of them ends: turned clockwise by an angle in thousandths of a degree, moved, and with a title
abbrev pub turned_head : ℕ → Point → List ℕ
turned_head angle about = codes "<g transform='rotate(" ++ thousandths_text angle ++ corner_text (codes ",") about ++ codes ")'>\n"

abbrev pub moved_head : Point → List ℕ
moved_head by = corner_text (codes "<g transform='translate(") by ++ codes ")'>\n"

abbrev pub titled_head : List ℕ → List ℕ
titled_head words = codes "<g><title>" ++ escaped words ++ codes "</title>\n"

abbrev pub group_end : List ℕ
group_end = codes "</g>\n"
