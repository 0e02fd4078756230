use Rattle.std.proofs.Common.{ℕ, ◌-◌, ap, ◌∙◌}
use Rattle.svg_text.specs.Picture.{text_of}
use Rattle.svg_text.specs.Pieces.{titled_head, turned_head}
use Rattle.ring_picture.specs.Angles.{angle_of}
use Rattle.ring_picture.specs.Keys.{mark_picture}
use Rattle.ring_picture.proofs.Grouped.{twice_grouped}
use Rattle.ring_picture.proofs.keys.put_titled_key.Goals as goal

pub returns : goal.returns
returns c =
    twice_grouped c.close_group-2.result _ _ _ _ _ _ _ _ _ _ _ _ _ (ap titled_head c.id_to_hex.ensures.text)
    (ap (λ (n : ℕ). turned_head n c.middle.result) c.angle_of.ensures.angle ∙ ap (turned_head (angle_of c.args.key)) c.middle.ensures)
    (ap (λ (r : ℕ). text_of (mark_picture c.args.layout.now (c.args.layout.now.center - r) c.args.tier c.args.key)) c.key_radius.ensures)
    c.in_ok-open_titled.ensures c.in_ok-open_turned.ensures c.in_ok-put_mark.ensures c.in_ok-close_group.ensures c.close_group-2.ensures
