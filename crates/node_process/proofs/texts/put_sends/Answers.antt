use Rattle.node_process.specs.Texts.{send_line}
use Rattle.node_process.proofs.Writing.{one_more}
use Rattle.node_process.proofs.texts.put_sends.Goals as goal

pub loop-addressed-preserved : goal.loop-addressed-preserved
loop-addressed-preserved c =
    one_more send_line c.args.text.now c.loop-addressed.text c.put_send.new.text c.args.frames.now c.loop-addressed.addressed-index c.addressed-item.result
    c.loop-addressed.invariant c.loop-addressed-test.true c.addressed-item.is c.in_ok-put_send.ensures
