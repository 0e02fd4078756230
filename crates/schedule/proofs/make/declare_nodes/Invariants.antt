use Rattle.std.proofs.Common.{◌≡◌, map}
use Rattle.std.specs.List.{range_with_len}
use Rattle.schedule.specs.Making.{node_line}
use Rattle.schedule.proofs.make.declare_nodes.Given as goal

abbrev pub invariant-loop-node : goal.invariant-loop-node
invariant-loop-node l = l.builder ≡ record l.fn.builder { nodes = map (node_line l.made.seed) (range_with_len 0 l.node) }
