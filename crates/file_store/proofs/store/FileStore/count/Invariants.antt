-- So many entries are counted.
use Rattle.std.proofs.Common.{◌≡◌, take, count_by, is_some}
use Rattle.file_store.proofs.store.FileStore.count.Given as goal

abbrev pub invariant-loop-place : goal.invariant-loop-place
invariant-loop-place l = l.count ≡ count_by (λ h. is_some h.slot) (take l.place l.self-inside.arena.files)
