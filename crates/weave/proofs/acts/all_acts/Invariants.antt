use Rattle.std.proofs.Common.{◌≡◌, All, map, take}
use Rattle.weave.specs.Placed.{IsWithin, all_placed, placed}
use Rattle.weave.proofs.acts.all_acts.Given as goal

-- the entries of the histories so far
abbrev pub invariant-loop-history : goal.invariant-loop-history
invariant-loop-history g l = record {
  acts : map (placed (map g.S.Strand.history l.strands)) l.acts.items ≡ all_placed (take l.history (map g.S.Strand.history l.strands));
  within : All (IsWithin (map g.S.Strand.history l.strands)) l.acts.items;
}
