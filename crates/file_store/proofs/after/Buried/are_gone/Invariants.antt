-- Each file so far is a tombstone.
use Rattle.std.proofs.Common.{◌≡◌, true, take}
use Rattle.std.specs.List.{list_all}
use Rattle.ring_math.specs.Files.{has_tomb}
use Rattle.file_store.proofs.after.Buried.are_gone.Given as goal

abbrev pub invariant-loop-file : goal.invariant-loop-file
invariant-loop-file l = list_all (has_tomb l.self) (take l.file-index l.files) ≡ true
