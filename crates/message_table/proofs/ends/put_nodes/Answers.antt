use Rattle.message_table.specs.Ends.{node_head}
use Rattle.message_table.proofs.Pieces.{piece_more}
use Rattle.message_table.proofs.ends.put_nodes.Goals as goal

pub loop-node-preserved : goal.loop-node-preserved
loop-node-preserved c =
    piece_more node_head c.args.nodes.now c.loop-node.node-index c.node-item.result c.args.text.now _ _ c.loop-node-test.true c.node-item.is
    c.loop-node.invariant c.in_ok-put_node.ensures
