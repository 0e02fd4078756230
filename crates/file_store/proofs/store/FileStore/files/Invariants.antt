-- So many files are listed.
use Rattle.std.proofs.Common.{◌≡◌, take, map}
use Rattle.file_store.proofs.store.FileStore.files.Given as goal

abbrev pub invariant-loop-place : goal.invariant-loop-place
invariant-loop-place l = l.files.items ≡ map (λ h. h.file) (take l.place l.self-inside.arena.files)
