use Rattle.std.proofs.Common.{◌≡◌, map}
use Rattle.std.specs.List.{range_with_len}
use Rattle.schedule.specs.Made.{made_file, file_word}
use Rattle.schedule.specs.Words.{generator_at}
use Rattle.schedule.proofs.file.make_files.Given as goal

abbrev pub invariant-loop-file : goal.invariant-loop-file
invariant-loop-file l = record {
  files : l.files.items ≡ map (made_file l.nodes l.seed) (range_with_len 0 l.file);
  words : l.words ≡ generator_at l.seed (file_word l.nodes l.file);
}
