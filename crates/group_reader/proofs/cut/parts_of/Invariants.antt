use Rattle.std.proofs.Common.{◌-◌, length}
use Rattle.group_reader.proofs.Cutting.{IsCutTo}
use Rattle.group_reader.proofs.cut.parts_of.Given as goal

-- the lines so far are whole, and none of them is the one
abbrev pub invariant-loop-from : goal.invariant-loop-from
invariant-loop-from l = IsCutTo l.bytes l.from l.lines

abbrev pub decreases-loop-from : goal.decreases-loop-from
decreases-loop-from l = length l.bytes - l.from
