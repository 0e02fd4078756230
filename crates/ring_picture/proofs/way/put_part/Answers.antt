use Rattle.std.proofs.Common.{ℕ, ap, ◌∙◌}
use Rattle.svg_text.specs.declared.point.Point.{Point}
use Rattle.svg_text.specs.Picture.{Arc, text_of}
use Rattle.svg_text.specs.Pieces.{turned_head}
use Rattle.ring_picture.specs.Layouts.{top_of}
use Rattle.ring_picture.proofs.Grouped.{grouped}
use Rattle.ring_picture.proofs.way.put_part.Goals as goal

pub returns : goal.returns
returns c =
    grouped c.close_group.result _ _ _ _ _ _ _ _ _ (ap (turned_head c.args.from) c.middle.ensures)
    (ap (λ (p : Point). text_of (Arc c.args.class p c.args.radius c.length_of.result)) c.top.ensures
    ∙ ap (λ (n : ℕ). text_of (Arc c.args.class (top_of c.args.layout.now c.args.radius) c.args.radius n)) c.length_of.ensures)
    c.in_ok-open_turned.ensures c.in_ok-put_arc.ensures c.close_group.ensures
