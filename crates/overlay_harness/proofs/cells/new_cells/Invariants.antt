use Rattle.std.proofs.Common.{◌≡◌, take}
use Rattle.overlay_harness.proofs.Made.{fresh}
use Rattle.overlay_harness.proofs.cells.new_cells.Given as goal

-- the cells of the nodes so far
abbrev pub invariant-loop-node : goal.invariant-loop-node
invariant-loop-node l = l.cells.items ≡ fresh l.founder (take l.node-index l.nodes)
