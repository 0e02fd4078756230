use Rattle.std.proofs.Common.{replicate, arith, ◌+◌, ◌*◌, ◌%◌, ◌∙◌, ap, refl}
use Rattle.std.specs.Prelude.{slice_index}
use Rattle.std.specs.Simd.Lanes.{zip2}
use Rattle.std.proofs.lemmas.Simd.{get_or-replicate}
use Rattle.trace_text.proofs.Vectors.{operated}
use Rattle.trace_text.proofs.lanes.join.Goals as goal

pub returns : goal.returns
returns c =
    let high = operated (λ a b. (a * b) % 256) c.args.high (replicate 16 16) c.fits-high.0 refl in
    let lanes = operated (λ a b. (a + b) % 256) (zip2 (λ a b. (a * b) % 256) c.args.high (replicate 16 16)) c.args.low high.long c.fits-low.0 in
    record {
      long = lanes.long;
      each = λ k h. lanes.each k h ∙ ap (λ n. (n + slice_index c.args.low k) % 256) (high.each k h
          ∙ ap (λ b. (slice_index c.args.high k * b) % 256) (get_or-replicate 16 k 16 0 h)) ∙ omega arith;
    }
