-- What is left to compare decides.
use Rattle.std.proofs.Common.{◌≡◌, ◌-◌, drop}
use Rattle.file_store.specs.Burial.{rises}
use Rattle.file_store.proofs.after.is_rising.Given as goal

abbrev pub invariant-loop-place : goal.invariant-loop-place
invariant-loop-place l = rises (drop (l.place - 1) l.files) ≡ rises l.files
