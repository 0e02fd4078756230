use Rattle.std.proofs.Common.{◌≡◌, ◌+◌, ◌≤◌, length}
use Rattle.trace_text.specs.Fronts.{Begins, lines_of, plain_front}
use Rattle.trace_text.proofs.reader.read_trace.Given as goal

-- the text begins with the front that was read, and the next line has this number
abbrev pub invariant-loop-text : goal.invariant-loop-text
invariant-loop-text l = record {
  begins : Begins l.bytes (plain_front l.front) l.rest;
  number : l.line ≡ length (lines_of (plain_front l.front)) + 1;
  room : l.line + length l.rest ≤ length l.bytes + 1;
}

abbrev pub decreases-loop-text : goal.decreases-loop-text
decreases-loop-text l = length l.rest
