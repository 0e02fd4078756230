use Rattle.std.proofs.Common.{ℕ, refl, ap, ◌∙◌}
use Rattle.svg_text.specs.Pieces.{titled_head, turned_head}
use Rattle.ring_picture.specs.Angles.{angle_of}
use Rattle.ring_picture.proofs.Grouped.{twice_grouped}
use Rattle.ring_picture.proofs.nodes.put_node.Goals as goal

pub returns : goal.returns
returns c =
    twice_grouped c.close_group-2.result _ _ _ _ _ _ _ _ _ _ _ _ _ (ap titled_head c.id_to_hex.ensures.text)
    (ap (λ (n : ℕ). turned_head n c.middle.result) c.angle_of.ensures.angle ∙ ap (turned_head (angle_of c.args.seat.now.id)) c.middle.ensures)
    refl
    c.in_ok-open_titled.ensures c.in_ok-open_turned.ensures c.in_ok-put_marks.ensures c.in_ok-close_group.ensures c.close_group-2.ensures
