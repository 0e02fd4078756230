use Rattle.std.proofs.Common.{◌≡◌, ◌++◌, take}
use Rattle.std.specs.List.{flat_map, AllByRecursion}
use Rattle.wire_codec.specs.Fields.{IsFile}
use Rattle.wire_codec.proofs.put.put_each_file.Given as goal

abbrev pub invariant-loop-file : goal.invariant-loop-file
invariant-loop-file l = record {
  written : l.out.items ≡ l.initial.out.items ++ flat_map (λ file. file) (take l.file-index l.files);
  fits : AllByRecursion IsFile (take l.file-index l.files);
}
