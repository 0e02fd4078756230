use Rattle.std.proofs.Common.{◌≡◌, ◌++◌, take}
use Rattle.svg_text.specs.Picture.{each_of, text_of}
use Rattle.course_picture.specs.Course.{lifeline}
use Rattle.course_picture.proofs.rows.put_lifelines.Given as goal

abbrev pub invariant-loop-id : goal.invariant-loop-id
invariant-loop-id l = l.text ≡ l.initial.text ++ text_of (each_of (lifeline l.board) (take l.id-index l.board.nodes))
