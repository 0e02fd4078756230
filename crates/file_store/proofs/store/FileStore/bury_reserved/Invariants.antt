-- So many of the tombs are buried.
use Rattle.std.proofs.Common.{◌≡◌, ◌≤◌, take}
use Rattle.ring_math.specs.Files.{buried_all}
use Rattle.file_store.proofs.store.FileStore.bury_reserved.Given as goal

abbrev pub invariant-loop-tomb : goal.invariant-loop-tomb
invariant-loop-tomb l = record {
  files : l.self.files ≡ buried_all l.fn.self.files (take l.tomb-index l.tombs);
  room : l.fn.self.room ≤ l.self.room;
}
