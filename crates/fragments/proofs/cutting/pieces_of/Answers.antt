use Rattle.std.proofs.Common.{length, arith}
use Rattle.fragments.proofs.Pieced.{fragment_added, part_of, starts_inside, few_fragments}
use Rattle.fragments.proofs.cutting.pieces_of.Goals as goal

pub loop-i-preserved : goal.loop-i-preserved
loop-i-preserved c =
    fragment_added (record { name = c.args.name.now; owner = c.args.owner.now; salt = c.args.salt.now; bytes = c.args.bytes.now }) c.loop-i.i
    c.loop-i.fragments.items c.push.new.self.items c.in_ok-fragment.field-0 _ c.loop-i.invariant c.in_ok-push.ensures.items
    c.in_ok-fragment.ensures (part_of c.args.bytes.now c.loop-i.i c.min-end.result c.min-end.ensures
    (starts_inside (length c.args.bytes.now) c.loop-i.i (omega (arith, c.div_ceil-i-end.ensures))))

pub with_index-requires : goal.with_index-requires
with_index-requires c =
    few_fragments (record { name = c.args.name.now; owner = c.args.owner.now; salt = c.args.salt.now; bytes = c.args.bytes.now }) c.loop-i.i _
    c.loop-i.fragments.items c.requires (omega (arith, c.div_ceil-i-end.ensures)) c.loop-i.invariant
