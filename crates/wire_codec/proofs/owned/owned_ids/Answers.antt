-- Each identifier finds room.
use Rattle.std.proofs.Common.{[]}
use Rattle.std.specs.Int.{w128, from_be_bytes}
use Rattle.ring_math.specs.declared.limits.TheConstants.{MOST_MEMBERS}
use Rattle.wire_codec.proofs.Lists.{pushed_more}
use Rattle.wire_codec.proofs.owned.owned_ids.Goals as goal

pub loop-id-preserved : goal.loop-id-preserved
loop-id-preserved c =
    pushed_more (from_be_bytes w128) c.args.ids.now c.loop-id.id-index MOST_MEMBERS [] c.from_be_bytes.result c.loop-id.owned c.push-has_room.new.self
    c.push-has_room.result
    c.requires c.loop-id-test.true c.loop-id.invariant c.from_be_bytes.ensures c.push-has_room.ensures.answer c.push-has_room.ensures.pushed
