use Rattle.std.proofs.Common.{◌≡◌, ◌*◌, map}
use Rattle.std.specs.List.{range_with_len}
use Rattle.schedule.specs.Making.{node_id}
use Rattle.schedule.specs.Words.{generator_at}
use Rattle.schedule.proofs.made.Made.new.Given as goal

abbrev pub invariant-loop-node : goal.invariant-loop-node
invariant-loop-node l = record {
  ids : l.ids.items ≡ map (node_id l.seed) (range_with_len 0 l.node);
  words : l.words ≡ generator_at l.seed (4 * l.node);
}
