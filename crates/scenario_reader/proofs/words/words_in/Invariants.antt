use Rattle.std.proofs.Common.{◌≡◌, ◌+◌, ◌≤◌, ◌++◌, length, map, vec_len}
use Rattle.std.specs.List.{slice_split}
use Rattle.scenario_reader.specs.Words.{is_space, words_from, words_of}
use Rattle.scenario_reader.specs.Words.{plain_word}
use Rattle.scenario_reader.proofs.words.words_in.Given as goal

-- the words so far, and those of the rest, are the words of the line
abbrev pub invariant-loop-spaces : goal.invariant-loop-spaces
invariant-loop-spaces l = record {
  read : map plain_word l.words.items ++ words_from l.place (slice_split is_space l.rest) ≡ words_of l.line;
  within : l.place + length l.rest ≡ length l.line;
  few : vec_len l.words ≤ l.place;
}

abbrev pub decreases-loop-spaces : goal.decreases-loop-spaces
decreases-loop-spaces l = length l.rest
