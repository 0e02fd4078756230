-- The place is sought from `low` to `high`.
use Rattle.std.proofs.Common.{◌≤◌, ◌-◌, length}
use Rattle.file_store.specs.Places.{place_of}
use Rattle.file_store.proofs.store.FileStore.place.Given as goal

abbrev pub invariant-loop-low : goal.invariant-loop-low
invariant-loop-low l = record {
  from : l.low ≤ place_of l.self-inside.arena.files l.file;
  to : place_of l.self-inside.arena.files l.file ≤ l.high;
  inside : l.high ≤ length l.self-inside.arena.files;
}

abbrev pub decreases-loop-low : goal.decreases-loop-low
decreases-loop-low l = l.high - l.low
