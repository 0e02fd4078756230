use Rattle.std.proofs.Common.{◌≡◌, ◌≤◌, length}
use Rattle.scenario_reader.specs.Lines.{lines_of}
use Rattle.scenario_reader.specs.Grammar.{scenario_of, read_from}
use Rattle.scenario_reader.proofs.read.read_scenario.Given as goal

-- reading the rest into the draft gives what the whole gives
abbrev pub invariant-loop-rest : goal.invariant-loop-rest
invariant-loop-rest l = record {
  whole : read_from l.draft l.line (lines_of l.rest) ≡ scenario_of l.bytes;
  few : l.line ≤ 10001;
}

abbrev pub decreases-loop-rest : goal.decreases-loop-rest
decreases-loop-rest l = length l.rest
