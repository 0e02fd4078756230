use Rattle.std.proofs.Common.{◌≡◌, ◌++◌, ◌-◌, ℕ, refl, ap, ◌∙◌}
use Rattle.svg_text.specs.declared.class.Class.TheVariants as class
use Rattle.svg_text.specs.Picture.{place, text_of}
use Rattle.svg_text.specs.Pieces.{group_end, line_text, turned_head}
use Rattle.course_picture.specs.declared.sizes.TheConstants.{GAP, TOP, TURN}
use Rattle.course_picture.specs.Board.{x_of, y_of}
use Rattle.course_picture.specs.Course.{label}
use Rattle.course_picture.proofs.Pieces.{group_written, two_written}
use Rattle.course_picture.proofs.rows.put_lifeline.Goals as goal

pub returns : goal.returns
returns c =
    let b = c.args.board.now in
    let id = c.args.id in
    let old = c.args.text.now in
    let x : c.x-x.result ≡ x_of b id = c.x-x.ensures.is in
    let y : c.y-lower.result ≡ y_of b b.stop = c.y-lower.ensures.is ∙ ap (y_of b) c.stop.ensures in
    let line = line_text class.Life (place (x_of b id) TOP) (place (x_of b id) (y_of b b.stop)) in
    let head = turned_head TURN (place (x_of b id) (TOP - GAP)) in
    let inner = text_of (label id (place (x_of b id) (TOP - GAP))) in
    let first : c.put_line.new.text ≡ old ++ line =
    c.in_ok-put_line.ensures ∙ ap (λ (n : ℕ). old ++ line_text class.Life (place n TOP) (place n c.y-lower.result)) x ∙
    ap (λ (n : ℕ). old ++ line_text class.Life (place (x_of b id) TOP) (place (x_of b id) n)) y in
    let turned : c.open_turned.new.text ≡ c.put_line.new.text ++ head =
    c.in_ok-open_turned.ensures ∙ ap (λ (n : ℕ). c.put_line.new.text ++ turned_head TURN (place n (TOP - GAP))) x in
    let labelled : c.put_label.new.text ≡ c.open_turned.new.text ++ inner =
    c.in_ok-put_label.ensures ∙ ap (λ (n : ℕ). c.open_turned.new.text ++ text_of (label id (place n (TOP - GAP)))) x in
    two_written c.close_group.result old c.put_line.new.text c.close_group.new.text line (head ++ (inner ++ group_end)) (line ++ (head ++ (inner ++ group_end)))
    first refl
    (group_written c.close_group.result c.put_line.new.text c.open_turned.new.text c.put_label.new.text c.close_group.new.text head inner group_end turned
    labelled c.close_group.ensures)
