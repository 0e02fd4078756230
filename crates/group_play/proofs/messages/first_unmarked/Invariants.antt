use Rattle.std.proofs.Common.{◌≡◌, ◌≤◌, ◌<◌, ℕ, true, false, slice_index_or}
use Rattle.group_play.proofs.messages.first_unmarked.Given as goal

-- those before are marked
abbrev pub invariant-loop-place : goal.invariant-loop-place
invariant-loop-place l = (m : ℕ) → l.from ≤ m → m < l.place → slice_index_or l.marks m false ≡ true
