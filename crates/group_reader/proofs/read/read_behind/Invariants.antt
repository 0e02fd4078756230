use Rattle.std.proofs.Common.{◌≡◌, ◌≤◌, ◌+◌, length}
use Rattle.scenario_reader.specs.Lines.{lines_of}
use Rattle.group_reader.specs.Grammar.{read_from}
use Rattle.group_reader.specs.Plain.{nothing_yet}
use Rattle.group_reader.proofs.read.read_behind.Given as goal

-- reading the rest into the draft gives what the whole gives
abbrev pub invariant-loop-rest : goal.invariant-loop-rest
invariant-loop-rest l = record {
  whole : read_from l.draft l.line l.count (lines_of l.rest) ≡ read_from (nothing_yet l.fn.scenario) l.first 1 (lines_of l.bytes);
  few : l.count ≤ 10001;
  line : l.line + 1 ≡ l.first + l.count;
}

abbrev pub decreases-loop-rest : goal.decreases-loop-rest
decreases-loop-rest l = length l.rest
