use Rattle.std.proofs.Common.{◌≡◌, ◌*◌, map}
use Rattle.std.specs.List.{range_with_len}
use Rattle.schedule.specs.Words.{generator_after, stream_start}
use Rattle.fragments.specs.Large.{generated}
use Rattle.fragments.specs.Pieces.{fragment}
use Rattle.fragments.proofs.large.generated_pieces.Given as goal

abbrev pub invariant-loop-i : goal.invariant-loop-i
invariant-loop-i l = record {
  fragments : l.fragments.items ≡ map (fragment (generated l.seed l.size)) (range_with_len 0 l.i);
  words : l.words ≡ generator_after (stream_start l.seed 1) (1024 * l.i);
}
