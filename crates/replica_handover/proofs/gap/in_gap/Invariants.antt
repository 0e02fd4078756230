-- What the entries so far have in the gap is found, and no more than there are entries.
use Rattle.std.proofs.Common.{◌≡◌, ◌≤◌, take, length}
use Rattle.coverage.specs.GapFiles.{files_in_gap}
use Rattle.replica_handover.proofs.gap.in_gap.Given as goal

abbrev pub invariant-loop-place : goal.invariant-loop-place
invariant-loop-place l = record {
  files : l.found.items ≡ files_in_gap l.reach l.joiner (take l.place l.store.files);
  limit : length l.found.items ≤ l.place;
}
