use Rattle.std.proofs.Common.{◌<◌, ◌^◌}
use Rattle.std.specs.Int.{w128, to_be_bytes}
use Rattle.wire_codec.proofs.Lists.{fits_more, written_more}
use Rattle.wire_codec.proofs.put.put_each_id.Goals as goal

pub loop-id-preserved : goal.loop-id-preserved
loop-id-preserved c = record {
  written = written_more (to_be_bytes w128) c.args.ids.now c.loop-id.id-index c.id-item.result c.args.out.now.items _ _ c.loop-id-test.true c.id-item.is
      c.loop-id.invariant.written c.in_ok-put_id.ensures.bytes;
  fits = fits_more (λ id. id < 2 ^ 128) c.args.ids.now c.loop-id.id-index c.id-item.result c.loop-id-test.true c.id-item.is c.loop-id.invariant.fits
      c.in_ok-put_id.ensures.fits.0;
}
