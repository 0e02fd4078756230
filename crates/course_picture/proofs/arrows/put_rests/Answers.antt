use Rattle.std.proofs.Common.{◌≡◌, ◌++◌, ◌+◌, arith}
use Rattle.std.specs.List.{flat_map, range_with_len}
use Rattle.svg_text.specs.Picture.{each_of, text_of}
use Rattle.course_picture.specs.Arrows.{rest_at}
use Rattle.course_picture.specs.Ways.{arrow_picture}
use Rattle.course_picture.proofs.Kept.{numbers-more}
use Rattle.course_picture.proofs.Pieces.{made-next, more_drawn}
use Rattle.course_picture.proofs.arrows.put_rests.Goals as goal

pub loop-place-preserved : goal.loop-place-preserved
loop-place-preserved c =
    let b = c.args.drawing.now.board in
    let es = c.args.drawing.now.front in
    let i = c.loop-place.place in
    let more : c.put_rest.new.text ≡ c.loop-place.text ++ text_of (each_of (arrow_picture b) (rest_at b es i)) = c.in_ok-put_rest.ensures in
    more_drawn (arrow_picture b) c.args.text.now c.loop-place.text c.put_rest.new.text (flat_map (rest_at b es) (range_with_len 0 i)) (rest_at b es i)
    (flat_map (rest_at b es) (range_with_len 0 (i + 1))) c.loop-place.invariant more
    (made-next (rest_at b es) (range_with_len 0 i) (range_with_len 0 (i + 1)) i (numbers-more 0 i i (omega arith)))
