use Rattle.std.proofs.Common.{◌≡◌, ◌++◌, ◌-◌}
use Rattle.std.specs.List.{range_with_len}
use Rattle.svg_text.specs.Picture.{each_of, text_of}
use Rattle.course_picture.specs.Course.{row_at}
use Rattle.course_picture.proofs.rows.put_rows.Given as goal

-- the rows so far
abbrev pub invariant-loop-place : goal.invariant-loop-place
invariant-loop-place l =
    l.text ≡ l.initial.text
    ++ text_of (each_of (row_at l.drawing.board l.drawing.front) (range_with_len l.drawing.board.first (l.place - l.drawing.board.first)))
