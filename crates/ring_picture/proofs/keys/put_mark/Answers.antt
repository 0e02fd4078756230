use Rattle.std.proofs.Common.{refl}
use Rattle.ring_picture.proofs.Grouped.{grouped}
use Rattle.ring_picture.proofs.keys.put_mark.Goals as goal

pub returns : goal.returns
returns c =
    grouped c.put_key_label.result _ _ _ _ _ _ _ _ _ refl refl c.in_ok-put_triangle.ensures c.in_ok-put_key_guide.ensures c.put_key_label.ensures
