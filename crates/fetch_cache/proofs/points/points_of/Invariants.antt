use Rattle.std.proofs.Common.{◌≡◌, take}
use Rattle.std.specs.NonZero.{non_zero_usize_get}
use Rattle.scenario_reader.specs.Plain.{ids}
use Rattle.fetch_cache.specs.Points.{points_at_start}
use Rattle.fetch_cache.proofs.points.points_of.Given as goal

abbrev pub invariant-loop-node : goal.invariant-loop-node
invariant-loop-node l = l.points.items ≡ points_at_start (non_zero_usize_get l.room) (ids (take l.node-index l.nodes))
