use Rattle.std.proofs.Common.{◌≡◌, ◌++◌, ◌<◌, List, ℕ, length, get_or, ap, subst, ◌∙◌}
use Rattle.svg_text.specs.Picture.{text_of}
use Rattle.svg_text.proofs.Pieces.{each_more}
use Rattle.course_picture.specs.Course.{lifeline}
use Rattle.course_picture.proofs.rows.put_lifelines.Goals as goal

pub loop-id-preserved : goal.loop-id-preserved
loop-id-preserved c =
    let b = c.args.board.now in
    let i = c.loop-id.id-index in
    let x = c.id-item.result in
    let ids = c.nodes-id-items.ensures in
    let within : i < length b.nodes = subst (λ (xs : List ℕ). i < length xs) ids c.loop-id-test.true in
    let at : x ≡ get_or b.nodes i x = c.id-item.is ∙ ap (λ (xs : List ℕ). get_or xs i x) ids in
    let more : c.put_lifeline.new.text ≡ c.loop-id.text ++ text_of (lifeline b x) = c.in_ok-put_lifeline.ensures in
    each_more (lifeline b) b.nodes i x c.args.text.now c.loop-id.text c.put_lifeline.new.text within at c.loop-id.invariant more
