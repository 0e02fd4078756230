use Rattle.std.proofs.Common.{◌≡◌, ◌++◌, ◌<◌, ◌^◌, take}
use Rattle.std.specs.Int.{w128, to_be_bytes}
use Rattle.std.specs.List.{flat_map, AllByRecursion}
use Rattle.wire_codec.proofs.put.put_each_id.Given as goal

abbrev pub invariant-loop-id : goal.invariant-loop-id
invariant-loop-id l = record {
  written : l.out.items ≡ l.initial.out.items ++ flat_map (to_be_bytes w128) (take l.id-index l.ids);
  fits : AllByRecursion (λ id. id < 2 ^ 128) (take l.id-index l.ids);
}
