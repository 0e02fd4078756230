-- So many entries are copied, and there is room for all.
use Rattle.std.proofs.Common.{◌≡◌, ◌≤◌, take, length}
use Rattle.file_store.proofs.arena.Arena.copy.Given as goal

abbrev pub invariant-loop-place : goal.invariant-loop-place
invariant-loop-place l = record {
  files : l.copy.files ≡ take l.place l.self.files;
  room : length l.self.files ≤ l.copy.room;
}
