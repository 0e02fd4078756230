use Rattle.std.proofs.Common.{◌≡◌, ◌++◌, ℕ, refl, subst}
use Rattle.std.specs.Prelude.{OnOk}
use Rattle.svg_text.specs.Picture.{text_of}
use Rattle.ring_picture.specs.Nodes.{label_picture}
use Rattle.ring_picture.proofs.Grouped.{grouped}
use Rattle.ring_picture.proofs.nodes.put_marks.Goals as goal

pub returns : goal.returns
returns c =
    grouped c.put_label.result _ _ _ _ _ _ _ _ _ refl refl c.in_ok-put_guide.ensures c.in_ok-put_dot.ensures
    (subst (λ (n : ℕ). OnOk c.put_label.result (c.put_label.new.text ≡ c.put_dot.new.text ++ text_of (label_picture c.args.layout.now n c.args.seat.now.id)))
    c.label_radius.ensures.radius c.put_label.ensures)
