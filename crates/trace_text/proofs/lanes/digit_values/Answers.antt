use Rattle.std.proofs.Common.{◌≡◌, ℕ, sym, subst, ◌∙◌, arith, refl, w8, Fits}
use Rattle.std.specs.Prelude.{slice_index}
use Rattle.std.proofs.lemmas.Simd.{Each1-get_or, get_or-replicate}
use Rattle.trace_text.specs.Lanes.{IsValueOf}
use Rattle.trace_text.proofs.Values.{lane_value, value_of_lane}
use Rattle.trace_text.proofs.lanes.digit_values.Goals as goal

pub returns : goal.returns
returns c = record {
  long = c.where_below.ensures.long;
  each = λ k h.
      let d = slice_index c.args.digits k in
      let is : slice_index c.where_below.result k ≡ value_of_lane d =
      c.where_below.ensures.each k h ∙ rw (
        c.less-from_zero.ensures.each k h,
        c.where_below-letters.ensures.each k h,
        c.more.ensures.each k h,
        c.less-from_a.ensures.each k h,
        get_or-replicate {A = ℕ} 16 k 16 0 h,
      ) refl in
      subst (IsValueOf d) (sym is) (lane_value d (Each1-get_or (Fits w8) c.args.digits k 0 (omega (arith, c.fits-digits.0, h)) c.fits-digits.1).fits);
}
