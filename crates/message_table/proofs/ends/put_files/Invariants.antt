use Rattle.std.proofs.Common.{◌≡◌, ◌++◌, take}
use Rattle.std.specs.List.{flat_map}
use Rattle.message_table.specs.Ends.{file_head}
use Rattle.message_table.proofs.ends.put_files.Given as goal

abbrev pub invariant-loop-file : goal.invariant-loop-file
invariant-loop-file l = l.text ≡ l.initial.text ++ flat_map file_head (take l.file-index l.files)
