use Rattle.std.proofs.Common.{◌≡◌, take}
use Rattle.trace_picture.specs.Keys.{keys_in}
use Rattle.trace_picture.proofs.keys.accepted_keys.Given as goal

-- the keys so far
abbrev pub invariant-loop-place : goal.invariant-loop-place
invariant-loop-place l = l.keys.items ≡ keys_in (take l.place l.entries)
