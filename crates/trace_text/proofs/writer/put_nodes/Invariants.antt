use Rattle.std.proofs.Common.{map, take}
use Rattle.trace_text.specs.Lines as lines
use Rattle.trace_text.specs.Writing.{WritesLines}
use Rattle.trace_text.proofs.writer.put_nodes.Given as goal

abbrev pub invariant-loop-node : goal.invariant-loop-node
invariant-loop-node l = WritesLines l.initial.text l.text (map lines.Node (take l.node-index l.nodes))
