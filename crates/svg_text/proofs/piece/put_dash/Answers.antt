use Rattle.svg_text.proofs.Written.{three_written}
use Rattle.svg_text.proofs.piece.put_dash.Goals as goal

pub returns : goal.returns
returns c = three_written c.put-2.result _ _ _ _ _ _ _ c.in_ok-put.ensures c.in_ok-put_thousandths.ensures c.put-2.ensures
