use Rattle.std.proofs.Common.{replicate, ◌∙◌, ap, arith, refl, bit_and, w8, Fits}
use Rattle.std.specs.Prelude.{slice_index}
use Rattle.std.proofs.lemmas.Simd.{Each1-get_or, get_or-replicate}
use Rattle.trace_text.proofs.Values.{low_of_lane}
use Rattle.trace_text.proofs.Vectors.{operated}
use Rattle.trace_text.proofs.lanes.low_bits.Goals as goal

pub returns : goal.returns
returns c =
    let lanes = operated bit_and c.args.lanes (replicate 16 15) c.fits-lanes.0 refl in
    record {
      long = lanes.long;
      each = λ k h. lanes.each k h ∙ ap (λ b. bit_and (slice_index c.args.lanes k) b) (get_or-replicate 16 k 15 0 h)
          ∙ low_of_lane (slice_index c.args.lanes k) (Each1-get_or (Fits w8) c.args.lanes k 0 (omega (arith, c.fits-lanes.0, h)) c.fits-lanes.1).fits;
    }
