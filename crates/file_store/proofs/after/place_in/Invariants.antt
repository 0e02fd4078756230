-- No file so far is this one.
use Rattle.std.proofs.Common.{◌≡◌, false, take}
use Rattle.file_store.specs.Burial.{is_named}
use Rattle.file_store.proofs.after.place_in.Given as goal

abbrev pub invariant-loop-place : goal.invariant-loop-place
invariant-loop-place l = is_named (take l.place l.files) l.file ≡ false
