use Rattle.std.proofs.Common.{◌≡◌, ◌++◌, map, take}
use Rattle.message_table.specs.Labels.{label_of, spaced}
use Rattle.message_table.proofs.labels.Labels.put_files.Given as goal

abbrev pub invariant-loop-file : goal.invariant-loop-file
invariant-loop-file l = l.text ≡ l.initial.text ++ spaced (map (label_of l.self.files) (take l.file-index l.files))
