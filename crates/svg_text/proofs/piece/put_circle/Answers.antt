use Rattle.svg_text.proofs.Written.{three_written}
use Rattle.svg_text.proofs.piece.put_circle.Goals as goal

pub returns : goal.returns
returns c = three_written c.put_radius.result _ _ _ _ _ _ _ c.in_ok-put_open.ensures c.in_ok-put_place.ensures c.put_radius.ensures
