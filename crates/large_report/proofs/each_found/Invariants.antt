use Rattle.std.proofs.Common.{◌≡◌, map, take}
use Rattle.std.specs.Option.{option_copied}
use Rattle.delivery_report.specs.Answers.{found_by}
use Rattle.large_report.proofs.each_found.Given as goal

abbrev pub invariant-loop-closing : goal.invariant-loop-closing
invariant-loop-closing l = l.found.items ≡ map found_by (map option_copied (take l.closing-index l.closings))
