use Rattle.trace_text.specs.Lines as lines
use Rattle.trace_text.proofs.Written.{lines_more}
use Rattle.trace_text.proofs.writer.put_nodes.Goals as goal

pub loop-node-preserved : goal.loop-node-preserved
loop-node-preserved c =
    lines_more lines.Node c.args.nodes.now c.loop-node.node-index c.node-item.result c.args.text.now _ _ c.loop-node-test.true c.node-item.is
    c.loop-node.invariant c.in_ok-put_node.ensures
