use Rattle.std.proofs.Common.{◌≡◌, ◌++◌, map, take}
use Rattle.node_cell.specs.Entries.{plain_entry}
use Rattle.weave.specs.ByStamp.{envelopes_at}
use Rattle.weave.specs.Taken.{came_in}
use Rattle.weave.proofs.reading.add_taken.Given as goal

-- what the entries so far took in is added
abbrev pub invariant-loop-entry : goal.invariant-loop-entry
invariant-loop-entry l = envelopes_at l.taken.items ≡ envelopes_at l.fn.taken.items ++ came_in (map plain_entry (take l.entry-index l.history))
