use Rattle.svg_text.proofs.Written.{four_written}
use Rattle.svg_text.proofs.document.put_root.Goals as goal

pub returns : goal.returns
returns c =
    four_written c.put-2.result _ _ _ _ _ _ _ _ _ c.in_ok-put.ensures c.in_ok-put_place.ensures c.in_ok-put_place-2.ensures c.put-2.ensures
