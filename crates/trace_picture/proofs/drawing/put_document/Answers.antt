use Rattle.std.proofs.Common.{List, ℕ, ap, ◌∙◌}
use Rattle.svg_text.specs.Document.{document_head}
use Rattle.trace_picture.specs.Picture.{whole_size}
use Rattle.trace_picture.proofs.Sides.{document_written}
use Rattle.trace_picture.proofs.drawing.put_document.Goals as goal

pub returns : goal.returns
returns c =
    document_written c.close_document.result _ _ _ _ _ _ _ _ _ _
    (ap document_head (c.whole_size.ensures ∙ ap (λ (xs : List ℕ). whole_size xs c.args.part.now) c.as_slice.ensures))
    c.in_ok-open_document.ensures c.in_ok-put_left.ensures c.in_ok-put_right.ensures c.close_document.ensures
