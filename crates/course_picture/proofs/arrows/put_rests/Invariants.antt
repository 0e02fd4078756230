use Rattle.std.proofs.Common.{◌≡◌, ◌++◌}
use Rattle.std.specs.List.{flat_map, range_with_len}
use Rattle.svg_text.specs.Picture.{each_of, text_of}
use Rattle.course_picture.specs.Arrows.{rest_at}
use Rattle.course_picture.specs.Ways.{arrow_picture}
use Rattle.course_picture.proofs.arrows.put_rests.Given as goal

-- the arrows so far
abbrev pub invariant-loop-place : goal.invariant-loop-place
invariant-loop-place l =
    l.text ≡ l.initial.text ++ text_of (each_of (arrow_picture l.drawing.board) (flat_map (rest_at l.drawing.board l.drawing.front) (range_with_len 0 l.place)))
