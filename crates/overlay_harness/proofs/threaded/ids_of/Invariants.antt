use Rattle.std.proofs.Common.{◌≡◌, take}
use Rattle.scenario_reader.specs.Plain.{ids}
use Rattle.overlay_harness.proofs.threaded.ids_of.Given as goal

abbrev pub invariant-loop-node : goal.invariant-loop-node
invariant-loop-node l = l.ids.items ≡ ids (take l.node-index l.nodes)
