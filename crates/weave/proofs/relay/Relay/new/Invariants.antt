use Rattle.std.proofs.Common.{[], take}
use Rattle.step_facts.specs.Setting.{setting}
use Rattle.weave.specs.Relayed.{Hold}
use Rattle.weave.proofs.relay.Relay.new.Given as goal

-- the cells of the nodes so far
abbrev pub invariant-loop-node : goal.invariant-loop-node
invariant-loop-node l = Hold (setting (take l.node-index l.nodes) l.founder) [] l.cells.items
