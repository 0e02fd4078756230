use Rattle.std.proofs.Common.{◌≡◌, ◌++◌, ◌-◌, length, take}
use Rattle.std.specs.List.{flat_map, range_with_len}
use Rattle.overlay_rules.specs.Record.{sent_in}
use Rattle.svg_text.specs.Picture.{each_of, text_of}
use Rattle.course_picture.specs.Arrows.{arrow_into}
use Rattle.course_picture.specs.Marks.{AreMarks}
use Rattle.course_picture.specs.Ways.{arrow_picture}
use Rattle.course_picture.proofs.arrows.put_deliveries.Given as goal

-- the arrows so far, and what was delivered so far
abbrev pub invariant-loop-place : goal.invariant-loop-place
invariant-loop-place l = record {
  text : l.text ≡ l.initial.text ++ text_of (each_of (arrow_picture l.drawing.board)
      (flat_map (arrow_into l.drawing.front) (range_with_len l.drawing.board.first (l.place - l.drawing.board.first))));
  before : AreMarks l.before (length (sent_in l.drawing.front)) (take l.place l.drawing.front);
}
