-- The picture of a trace: on the left the ring after the last entry that is drawn, on the right the course of the entries.
use Rattle.std.specs.Prelude.{ℕ, ◌+◌, ◌-◌, max, List, length, take}
use Rattle.ring_math.specs.Names.{Id}
use Rattle.svg_text.specs.declared.point.Point.{Point}
use Rattle.svg_text.specs.Document.{document}
use Rattle.svg_text.specs.Picture.{Picture, Then, Moved, place}
use Rattle.overlay_rules.specs.Record.{world_after}
use Rattle.step_facts.specs.Setting.{setting}
use Rattle.ring_picture.specs.Layouts.{size_of}
use Rattle.ring_picture.specs.Ring.{ring_picture}
use Rattle.course_picture.specs.declared.course.Part.{Part}
use Rattle.course_picture.specs.Board.{height_of, width_of}
use Rattle.course_picture.specs.Course.{course_picture}
use Rattle.trace_text.specs.Traces.{PlainTrace}
use Rattle.trace_check.specs.declared.verdict.Verdict.{Verdict}
use Rattle.trace_picture.specs.Keys.{keys_in}
use Rattle.trace_picture.specs.Verdicts.{verdict_picture}
use Rattle.trace_picture.specs.Window.{after, window}

-- below the ring, where its corner is free
abbrev pub verdict_place : List Id → Point
verdict_place nodes = place 8 (size_of (length nodes) - 8)

-- the ring after so many entries, and below it the verdict
abbrev pub left_picture : PlainTrace → Verdict → ℕ → Picture
left_picture t v n =
    Then (ring_picture t.nodes (world_after (setting t.nodes t.founder) t.entries n).states (keys_in (take n t.entries)) n)
    (verdict_picture (verdict_place t.nodes) v)

abbrev pub right_picture : PlainTrace → Part → Picture
right_picture t p = Moved (place (size_of (length t.nodes)) 0) (course_picture t.nodes (take p.drawn t.entries) p.first p.stop p.wrong)

abbrev pub whole_picture : PlainTrace → Verdict → Part → ℕ → Picture
whole_picture t v p n = Then (left_picture t v n) (right_picture t p)

-- both side by side
abbrev pub whole_size : List Id → Part → Point
whole_size nodes p = place (size_of (length nodes) + width_of nodes) (max (size_of (length nodes)) (height_of (p.stop - p.first)))

-- the picture of a trace with this verdict: so many entries behind the first `from`
abbrev pub picture_text : PlainTrace → Verdict → ℕ → ℕ → List ℕ
picture_text t v from entries =
    let p = window v (length t.entries) from entries in document (whole_size t.nodes p) (whole_picture t v p (after v (length t.entries) from entries))
