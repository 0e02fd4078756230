use Rattle.std.proofs.Common.{◌≡◌, ◌^◌, All, length}
use Rattle.delivery_report.specs.Names.{IsRight}
use Rattle.ring_math.specs.declared.guess.TheConstants.{GUESS_BITS}
use Rattle.delivery_report.proofs.names.guesses_of.Given as goal

-- what is guessed so far is right
abbrev pub invariant-loop-node : goal.invariant-loop-node
invariant-loop-node l = record {
  right : All (IsRight l.nodes) l.guesses.items;
  size : length l.guesses.items ≡ 2 ^ GUESS_BITS;
}
