use Rattle.std.proofs.Common.{cond, replicate, ◌∙◌, ap, refl}
use Rattle.std.specs.Prelude.{nat_lt, slice_index}
use Rattle.std.proofs.lemmas.Simd.{get_or-replicate}
use Rattle.trace_text.proofs.Vectors.{chosen}
use Rattle.trace_text.proofs.lanes.where_below.Goals as goal

pub returns : goal.returns
returns c =
    let lanes = chosen nat_lt c.args.lanes (replicate 16 c.args.limit) c.args.one c.args.other c.fits-lanes.0 refl c.fits-one.0 c.fits-other.0 in
    record {
      long = lanes.long;
      each = λ k h. lanes.each k h ∙ ap (λ b. cond (nat_lt (slice_index c.args.lanes k) b) (slice_index c.args.one k) (slice_index c.args.other k))
          (get_or-replicate 16 k c.args.limit 0 h);
    }
