use Rattle.std.proofs.Common.{◌≡◌, map, take}
use Rattle.std.specs.Int.{w128, from_be_bytes}
use Rattle.wire_codec.proofs.owned.owned_ids.Given as goal

abbrev pub invariant-loop-id : goal.invariant-loop-id
invariant-loop-id l = l.owned ≡ map (from_be_bytes w128) (take l.id-index l.ids)
