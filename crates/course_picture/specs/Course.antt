-- The picture of a course.
use Rattle.std.specs.Prelude.{ℕ, ◌+◌, ◌-◌, ◌++◌, if◌then◌else◌, List, Option, Some, None, slice_get, decimal}
use Rattle.ring_math.specs.Names.{Id}
use Rattle.ring_math.specs.Texts.{text_of}
use Rattle.overlay_rules.specs.declared.entry.Entry.{Entry}
use Rattle.overlay_rules.specs.Record.{sent_in, visit}
use Rattle.delivery_report.specs.Deliveries.{node_of}
use Rattle.svg_text.specs.declared.class.Class.TheVariants as class
use Rattle.svg_text.specs.declared.point.Point.{Point}
use Rattle.svg_text.specs.Labels.{short_of}
use Rattle.svg_text.specs.Picture.{Picture, Blank, Then, Turned, Titled, Line, Circle, Rect, Words, each_of, place}
use Rattle.course_picture.specs.declared.sizes.TheConstants.{BASELINE, GAP, HALF_ROW, LEFT, MARGIN, RADIUS, ROW, TOP, TURN}
use Rattle.course_picture.specs.Arrows.{arrows}
use Rattle.course_picture.specs.Board.{Board, is_drawn, places, right_of, width_of, x_of, y_of}
use Rattle.course_picture.specs.Ways.{arrow_picture}
use Rattle.course_picture.specs.Words.{event_words, names_of, node_words, notes_words}

-- the first digits of an identifier, with all of them as their title
abbrev pub label : Id → Point → Picture
label id at = Titled (text_of id) (Words class.Label at (short_of id))

-- a node's lifeline from the upper edge to the lower, and its label, turned to the upper right
abbrev pub lifeline : Board → Id → Picture
lifeline b id =
    Then (Line class.Life (place (x_of b id) TOP) (place (x_of b id) (y_of b b.stop)))
    (Turned TURN (place (x_of b id) (TOP - GAP)) (label id (place (x_of b id) (TOP - GAP))))

-- an entry on its node's lifeline, and a line to its label
abbrev pub entry_mark : Board → ℕ → Option Id → Picture
entry_mark b p None = Blank
entry_mark b p (Some x) =
    Then (Line class.Guide (place (x_of b x) (y_of b p)) (place (right_of b.nodes) (y_of b p))) (Circle class.Entry (place (x_of b x) (y_of b p)) RADIUS)

-- what is said of the entry e of es
abbrev pub entry_words : Board → List Entry → Entry → List ℕ
entry_words b es e =
    node_words (names_of b.nodes) (node_of (visit (sent_in es) e.event)) ++ event_words (names_of b.nodes) (sent_in es) e.event
    ++ notes_words (names_of b.nodes) e.notes

-- an entry with its number, from 1 on, and its words
abbrev pub entry_picture : Board → List Entry → ℕ → Entry → Picture
entry_picture b es p e =
    Then (entry_mark b p (node_of (visit (sent_in es) e.event)))
    (Then (Words class.FaintEnd (place (LEFT - MARGIN) (y_of b p + BASELINE)) (decimal (p + 1)))
    (Words class.Label (place (right_of b.nodes + GAP) (y_of b p + BASELINE)) (entry_words b es e)))

abbrev pub row_picture : Board → List Entry → ℕ → Option Entry → Picture
row_picture b es p None = Blank
row_picture b es p (Some e) = entry_picture b es p e

abbrev pub row_at : Board → List Entry → ℕ → Picture
row_at b es p = row_picture b es p (slice_get es p)

-- the row of the entry that is wrong
abbrev pub wrong_row : Board → Option ℕ → Picture
wrong_row b None = Blank
wrong_row b (Some p) = if is_drawn b p then Rect class.Marked (place 0 (y_of b p - HALF_ROW)) (place (width_of b.nodes) ROW) else Blank

abbrev pub course : Board → List Entry → Option ℕ → Picture
course b es wrong =
    Then (wrong_row b wrong)
    (Then (each_of (lifeline b) b.nodes)
    (Then (each_of (arrow_picture b) (arrows b es))
    (each_of (row_at b es) (places b))))

-- the course of these entries among these nodes: those from the first place up to the last are drawn, and one may be marked as wrong
abbrev pub course_picture : List Id → List Entry → ℕ → ℕ → Option ℕ → Picture
course_picture nodes es first stop wrong = course (record { nodes = nodes; first = first; stop = stop }) es wrong
