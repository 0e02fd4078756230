use Rattle.std.proofs.Common.{◌≡◌, take}
use Rattle.course_picture.specs.Words.{names_of}
use Rattle.course_picture.proofs.names.names_of.Given as goal

abbrev pub invariant-loop-id : goal.invariant-loop-id
invariant-loop-id l = l.names.items ≡ names_of (take l.id-index l.ids)
