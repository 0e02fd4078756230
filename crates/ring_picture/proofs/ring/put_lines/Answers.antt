use Rattle.std.proofs.Common.{refl, ap}
use Rattle.svg_text.specs.declared.class.Class.TheVariants as class
use Rattle.svg_text.specs.declared.point.Point.{Point}
use Rattle.svg_text.specs.Picture.{Circle, text_of}
use Rattle.ring_picture.proofs.Grouped.{grouped}
use Rattle.ring_picture.proofs.ring.put_lines.Goals as goal

pub returns : goal.returns
returns c =
    grouped c.put_keys.result _ _ _ _ _ _ _ _ _ (ap (λ (p : Point). text_of (Circle class.Ring p c.args.layout.now.radius)) c.middle.ensures) refl
    c.in_ok-put_circle.ensures c.in_ok-put_sides.ensures c.put_keys.ensures
