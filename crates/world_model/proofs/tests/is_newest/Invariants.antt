use Rattle.std.proofs.Common.{◌<◌, ℕ, slice_index_or}
use Rattle.overlay_rules.specs.declared.entry.Entry.{Entry}
use Rattle.world_model.specs.Numbers.{IsNumberedBelow}
use Rattle.world_model.proofs.tests.is_newest.Given as goal

-- the entries so far have lesser numbers
abbrev pub invariant-loop-place : goal.invariant-loop-place
invariant-loop-place l = (k : ℕ) (d : Entry) → k < l.place → IsNumberedBelow l.number (slice_index_or l.entries k d).event
