use Rattle.std.proofs.Common.{ℕ, ◌+◌, ◌*◌, ◌<◌, ◌≤◌, List, length, take, sym, subst, ◌∙◌, arith}
use Rattle.std.specs.Prelude.{slice_index}
use Rattle.std.specs.Simd.Lanes.{put_chunk}
use Rattle.std.proofs.lemmas.Simd.{get_or-put_chunk_at, length-put_chunk}
use Rattle.trace_text.specs.Digits.{AreDigitsOf}
use Rattle.trace_text.proofs.Digits.{digit_at, pairs_more}
use Rattle.trace_text.proofs.Vectors.{both_below, greater_below, stored_behind}
use Rattle.trace_text.proofs.lanes.read_block.Goals as goal

pub returns-clause-read : goal.returns-clause-read
returns-clause-read c = λ is before.
    let text : List ℕ = c.args.text.now in
    let place : ℕ = c.args.place in
    let block : List ℕ = c.join.result in
    let stored : List ℕ = put_chunk place c.args.bytes.now block in
    let high : List ℕ = c.digit_values-high.result in
    let low : List ℕ = c.digit_values-low.result in
    let long = c.join.ensures.long in
    let room : place + length block ≤ length c.args.bytes.now = omega (arith, long, c.requires.bytes) in
    let size = length-put_chunk place c.args.bytes.now block in
    pairs_more text stored place 16 (omega (arith, c.requires.text)) (omega (arith, size, c.requires.bytes))
    (λ k h.
    let small = both_below (slice_index high k) (slice_index low k) (subst (λ (n : ℕ). n < 16) (c.greater.ensures.each k h) (c.are_small.ensures.yes is k h)) in
    record {
      high = slice_index high k;
      low = slice_index low k;
      high_small = small.0;
      low_small = small.1;
      high_is = (c.digit_values-high.ensures.each k h).digit_is small.0 ∙ c.pairs_at.ensures.high.each k h;
      low_is = (c.digit_values-low.ensures.each k h).digit_is small.1 ∙ c.pairs_at.ensures.low.each k h;
      value_is = get_or-put_chunk_at place c.args.bytes.now block k 0 (omega (arith, long, h)) room ∙ c.join.ensures.each k h ∙ omega (arith, small);
    })
    (subst (AreDigitsOf (take (2 * place) text)) (sym (stored_behind place c.args.bytes.now block room)) before)

pub returns-clause-spelled : goal.returns-clause-spelled
returns-clause-spelled c = λ lower.
    let text : List ℕ = c.args.text.now in
    let place : ℕ = c.args.place in
    let high : List ℕ = c.digit_values-high.result in
    let low : List ℕ = c.digit_values-low.result in
    c.are_small.ensures.no (λ k h.
    let high_lower = digit_at text (2 * (place + k)) (omega (arith, c.requires.text, h)) lower in
    let low_lower = digit_at text (2 * (place + k) + 1) (omega (arith, c.requires.text, h)) lower in
    subst (λ (n : ℕ). n < 16) (sym (c.greater.ensures.each k h)) (greater_below (slice_index high k) (slice_index low k)
    ((c.digit_values-high.ensures.each k h).lower (rw (c.pairs_at.ensures.high.each k h) high_lower))
    ((c.digit_values-low.ensures.each k h).lower (rw (c.pairs_at.ensures.low.each k h) low_lower))))
