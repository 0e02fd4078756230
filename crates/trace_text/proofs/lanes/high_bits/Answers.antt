use Rattle.std.proofs.Common.{replicate, ◌/◌, ◌^◌, ◌∙◌, ap, refl}
use Rattle.std.specs.Prelude.{slice_index}
use Rattle.std.proofs.lemmas.Simd.{get_or-replicate}
use Rattle.trace_text.proofs.Vectors.{operated}
use Rattle.trace_text.proofs.lanes.high_bits.Goals as goal

pub returns : goal.returns
returns c =
    let lanes = operated (λ a b. a / 2 ^ b) c.args.lanes (replicate 16 4) c.fits-lanes.0 refl in
    record {
      long = lanes.long;
      each = λ k h. lanes.each k h ∙ ap (λ b. slice_index c.args.lanes k / 2 ^ b) (get_or-replicate 16 k 4 0 h);
    }
