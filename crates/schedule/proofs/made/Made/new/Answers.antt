use Rattle.std.proofs.Common.{arith}
use Rattle.schedule.specs.Making.{node_id}
use Rattle.schedule.proofs.Making.{node_made, node_after, made_more, all_made, made_view}
use Rattle.schedule.proofs.made.Made.new.Goals as goal

pub loop-node-preserved : goal.loop-node-preserved
loop-node-preserved c = record {
  ids = made_more (node_id c.args.seed) c.loop-node.ids.items c.push.new.self.items c.loop-node.node c.make_id.result c.loop-node.invariant.ids
      c.in_ok-push.ensures.items
      (node_made c.args.seed c.loop-node.node c.make_id.result c.loop-node.words c.loop-node.invariant.words (omega arith) c.make_id.ensures.id);
  words = node_after c.args.seed c.loop-node.node c.loop-node.words c.make_id.new.words c.loop-node.invariant.words (omega arith) c.make_id.ensures.after;
}

pub invariant_of-result : goal.invariant_of-result
invariant_of-result c = all_made c.args.nodes c.args.seed c.loop-node.ids.items c.loop-node.node (omega arith) c.loop-node.invariant.ids

pub returns : goal.returns
returns c = made_view c.args.nodes c.args.seed c.loop-node.node c.loop-node.ids.items c.args.files.items (omega arith) c.loop-node.invariant.ids
