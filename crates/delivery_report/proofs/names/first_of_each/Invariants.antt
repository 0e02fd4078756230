use Rattle.std.proofs.Common.{take}
use Rattle.delivery_report.specs.Names.{FindsAll}
use Rattle.delivery_report.proofs.names.first_of_each.Given as goal

abbrev pub invariant-loop-node : goal.invariant-loop-node
invariant-loop-node l = FindsAll l.by_id (take l.node-index l.nodes)
