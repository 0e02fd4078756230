use Rattle.std.proofs.Common.{◌≡◌, ◌++◌}
use Rattle.std.specs.Prelude.{OnOk}
use Rattle.svg_text.specs.Picture.{each_of, text_of}
use Rattle.course_picture.specs.Arrows.{deliveries, rests}
use Rattle.course_picture.specs.Ways.{arrow_picture}
use Rattle.course_picture.proofs.Pieces.{both_drawn}
use Rattle.course_picture.proofs.arrows.put_arrows.Goals as goal

pub returns : goal.returns
returns c =
    let b = c.args.drawing.now.board in
    let es = c.args.drawing.now.front in
    let first : c.put_deliveries.new.text ≡ c.args.text.now ++ text_of (each_of (arrow_picture b) (deliveries b es)) = c.in_ok-put_deliveries.ensures.text in
    let last : OnOk c.put_rests.result (c.put_rests.new.text ≡ c.put_deliveries.new.text ++ text_of (each_of (arrow_picture b) (rests b es))) =
    c.put_rests.ensures in
    both_drawn (arrow_picture b) c.put_rests.result c.args.text.now c.put_deliveries.new.text c.put_rests.new.text (deliveries b es) (rests b es) first last
