use Rattle.svg_text.proofs.Written.{three_written}
use Rattle.trace_picture.proofs.verdict.put_wrong.Goals as goal

pub returns : goal.returns
returns c =
    three_written c.put-2.result _ _ _ _ _ _ _ c.in_ok-number_after.ensures c.in_ok-put.ensures (rw (← c.word.ensures) c.put-2.ensures)
