-- Each file so far has an entry.
use Rattle.std.proofs.Common.{◌≡◌, true, take}
use Rattle.std.specs.List.{list_all}
use Rattle.ring_math.specs.Files.{has_entry}
use Rattle.file_store.proofs.after.Buried.have_entries.Given as goal

abbrev pub invariant-loop-file : goal.invariant-loop-file
invariant-loop-file l = list_all (has_entry l.self) (take l.file-index l.files) ≡ true
