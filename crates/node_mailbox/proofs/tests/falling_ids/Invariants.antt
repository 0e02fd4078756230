use Rattle.std.proofs.Common.{◌≡◌, ◌<◌, ◌+◌, ℕ, length}
use Rattle.std.specs.Prelude.{slice_index_or}
use Rattle.node_mailbox.proofs.tests.falling_ids.Given as goal

abbrev pub invariant-loop-place : goal.invariant-loop-place
invariant-loop-place l = record {
  count : length l.ids.items ≡ l.place;
  fall : (k : ℕ) (d : ℕ) → k < length l.ids.items → slice_index_or l.ids.items k d + k ≡ 1000;
}
