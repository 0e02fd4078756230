use Rattle.std.proofs.Common.{◌≡◌, ◌++◌, ◌+◌, ◌-◌, ◌≤◌, sym, ap, ◌∙◌, arith}
use Rattle.std.specs.List.{range_with_len}
use Rattle.overlay_rules.specs.Seen.{entry_seen}
use Rattle.svg_text.specs.Picture.{text_of}
use Rattle.course_picture.specs.Course.{entry_picture, row_at, row_picture}
use Rattle.course_picture.proofs.Kept.{numbers-next}
use Rattle.course_picture.proofs.Pieces.{next_drawn}
use Rattle.course_picture.proofs.rows.put_rows.Goals as goal

pub loop-place-preserved : goal.loop-place-preserved
loop-place-preserved c =
    let b = c.args.drawing.now.board in
    let es = c.args.drawing.now.front in
    let i = c.loop-place.place in
    let low : b.first ≤ i = omega arith in
    let more : c.put_row.new.text ≡ c.loop-place.text ++ text_of (entry_picture b es i (entry_seen c.at-entry.result)) = c.in_ok-put_row.ensures in
    next_drawn (row_at b es) c.args.text.now c.loop-place.text c.put_row.new.text (range_with_len b.first (i - b.first)) i
    (range_with_len b.first (i + 1 - b.first)) c.loop-place.invariant
    (more ∙ ap (λ o. c.loop-place.text ++ text_of (row_picture b es i o)) (sym c.at-entry.ensures)) (numbers-next b.first i low)
