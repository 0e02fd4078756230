use Rattle.std.proofs.Common.{arith, ap, ◌∙◌}
use Rattle.scenario_reader.specs.Plain.{Draft}
use Rattle.schedule.proofs.Names.{may_declare_node, node_added, node_line_is}
use Rattle.schedule.proofs.make.declare_nodes.Goals as goal

pub add_node-requires : goal.add_node-requires
add_node-requires c =
    may_declare_node c.args.made.now.seed c.loop-node.node c.loop-node.builder _ _
    (ap (λ (d : Draft). d.nodes) c.loop-node.invariant) (omega arith) (c.as_bytes.ensures.value ∙ c.in_ok-name.ensures) c.id.ensures

pub loop-node-preserved : goal.loop-node-preserved
loop-node-preserved c =
    node_added c.args.made.now.seed c.loop-node.node c.args.builder.now c.loop-node.builder c.add_node.new.self _ c.loop-node.invariant
    c.in_ok-add_node.ensures.ok
    (node_line_is c.args.made.now.seed c.loop-node.node _ _ (c.as_bytes.ensures.value ∙ c.in_ok-name.ensures) c.id.ensures)
