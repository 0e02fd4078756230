use Rattle.std.proofs.Common.{List, ℕ, length, take, ap, ◌∙◌}
use Rattle.svg_text.specs.Picture.{place, text_of}
use Rattle.svg_text.specs.Pieces.{moved_head}
use Rattle.ring_picture.specs.Layouts.{size_of}
use Rattle.ring_picture.proofs.Grouped.{grouped}
use Rattle.course_picture.specs.Course.{course_picture}
use Rattle.trace_picture.proofs.drawing.put_right.Goals as goal

pub returns : goal.returns
returns c =
    let p = c.args.part.now in
    grouped c.close_group.result _ _ _ _ _ _ _ _ _
    (ap moved_head (c.course_place.ensures ∙ ap (λ (xs : List ℕ). place (size_of (length xs)) 0) c.as_slice-nodes.ensures))
    (ap (λ (xs : List ℕ). text_of (course_picture xs (take p.drawn c.args.trace.now.steps.entries) p.first p.stop p.wrong)) c.as_slice-nodes.ensures)
    c.in_ok-open_moved.ensures c.in_ok-put_course.ensures c.close_group.ensures
