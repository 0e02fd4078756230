use Rattle.std.proofs.Common.{◌≡◌, ◌*◌, take}
use Rattle.schedule.specs.Words.{generator_after, words_to_come, bytes_of}
use Rattle.schedule.proofs.words.Words.fill.Given as goal

abbrev pub invariant-words : goal.invariant-words
invariant-words l = record {
  filled : take (4 * l.i) l.bytes ≡ bytes_of (words_to_come l.fn.self l.i);
  after : l.self ≡ generator_after l.fn.self l.i;
}
