use Rattle.std.proofs.Common.{◌≡◌, ◌++◌, ◌+◌, ◌-◌, ◌≤◌, length, take, vec_len, vec_capacity}
use Rattle.weave.specs.Placed.{acts_from}
use Rattle.weave.proofs.acts.add_history.Given as goal

-- the entries so far are among them, and there is room for the others
abbrev pub invariant-loop-place : goal.invariant-loop-place
invariant-loop-place g l = record {
  acts : l.acts.items ≡ l.fn.acts.items ++ acts_from l.history 0 (take l.place (g.S.Strand.history l.strand).entries);
  room : vec_len l.acts + (length (g.S.Strand.history l.strand).entries - l.place) ≤ vec_capacity l.acts;
}
