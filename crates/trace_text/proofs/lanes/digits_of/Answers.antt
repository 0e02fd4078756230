use Rattle.std.proofs.Common.{◌∙◌}
use Rattle.std.specs.Prelude.{slice_index}
use Rattle.trace_text.proofs.Values.{lane_digit}
use Rattle.trace_text.proofs.lanes.digits_of.Goals as goal

pub returns : goal.returns
returns c = record {
  long = c.where_below.ensures.long;
  each = λ k h. c.where_below.ensures.each k h ∙ rw (c.more.ensures.each k h, c.more-2.ensures.each k h)
      (lane_digit (slice_index c.args.values k) (c.requires k h));
}
