use Rattle.std.proofs.Common.{◌≡◌, ◌+◌, ◌*◌, ◌%◌, ◌<◌, ℕ, fold, drop}
use Rattle.scenario_reader.specs.Marks.{mark_of}
use Rattle.scenario_reader.proofs.named.mark_of.Given as goal

-- the bytes still to come make of the mark so far that of the whole
abbrev pub invariant-loop-byte : goal.invariant-loop-byte
invariant-loop-byte l = record {
  small : l.mark < 256;
  whole : fold (λ (mark : ℕ) (byte : ℕ). (mark * 31 % 256 + byte) % 256) l.mark (drop l.byte-index l.name) ≡ mark_of l.name;
}
