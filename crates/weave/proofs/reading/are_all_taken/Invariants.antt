use Rattle.std.proofs.Common.{map, take}
use Rattle.node_cell.specs.Entries.{plain_entry}
use Rattle.weave.specs.ByStamp.{kept_in}
use Rattle.weave.proofs.Missing.{AreAllTaken}
use Rattle.weave.proofs.reading.are_all_taken.Given as goal

-- what the entries so far sent is among them
abbrev pub invariant-loop-entry : goal.invariant-loop-entry
invariant-loop-entry l = AreAllTaken (kept_in l.taken) (map plain_entry (take l.entry-index l.history))
