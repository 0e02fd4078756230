use Rattle.std.proofs.Common.{◌≡◌, take}
use Rattle.wire_codec.proofs.owned.owned_files.Given as goal

abbrev pub invariant-loop-file : goal.invariant-loop-file
invariant-loop-file l = l.owned.items ≡ take l.file-index l.files
