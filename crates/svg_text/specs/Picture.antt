-- A picture as a tree, and its text.
use Rattle.std.specs.Prelude.{ℕ, List, [], ◌∷◌, ◌++◌, map}
use Rattle.svg_text.specs.declared.class.Class.{Class}
use Rattle.svg_text.specs.declared.point.Point.{Point}
use Rattle.svg_text.specs.Pieces.{line_text, circle_text, rect_text, triangle_text, arc_text, words_text, turned_head, moved_head, titled_head, group_end}

-- places in whole units, angles in thousandths of a degree, lengths of arcs in thousandths of a unit
pub data Picture : Type 0 where
  Blank : Picture
  Then : (first rest : Picture) → Picture
  Turned : (angle : ℕ) (about : Point) (inner : Picture) → Picture
  Moved : (by : Point) (inner : Picture) → Picture
  Titled : (words : List ℕ) (inner : Picture) → Picture
  Line : (class : Class) (from to : Point) → Picture
  Circle : (class : Class) (center : Point) (radius : ℕ) → Picture
  Rect : (class : Class) (corner size : Point) → Picture
  Triangle : (class : Class) (a b c : Point) → Picture
  Arc : (class : Class) (top : Point) (radius length : ℕ) → Picture
  Words : (class : Class) (at : Point) (words : List ℕ) → Picture

abbrev pub text_of : Picture → List ℕ
text_of Blank = []
text_of (Then first rest) = text_of first ++ text_of rest
text_of (Turned angle about inner) = turned_head angle about ++ (text_of inner ++ group_end)
text_of (Moved by inner) = moved_head by ++ (text_of inner ++ group_end)
text_of (Titled words inner) = titled_head words ++ (text_of inner ++ group_end)
text_of (Line class from to) = line_text class from to
text_of (Circle class center radius) = circle_text class center radius
text_of (Rect class corner size) = rect_text class corner size
text_of (Triangle class a b c) = triangle_text class a b c
text_of (Arc class top radius length) = arc_text class top radius length
text_of (Words class at words) = words_text class at words

-- one behind another
abbrev pub all_of : List Picture → Picture
all_of [] = Blank
all_of (p ∷ ps) = Then p (all_of ps)

-- one for each
abbrev pub each_of : {A : Type 0} → (A → Picture) → List A → Picture
each_of draw xs = all_of (map draw xs)

-- a place
abbrev pub place : ℕ → ℕ → Point
place x y = record { x = x; y = y }
