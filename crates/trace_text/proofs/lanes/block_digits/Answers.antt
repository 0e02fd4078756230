use Rattle.std.proofs.Common.{List, ℕ, ◌<◌, ◌≡◌, ◌/◌, ◌%◌, take, arith, ◌∙◌, ap, sym}
use Rattle.std.specs.Prelude.{slice_index}
use Rattle.hex.specs.Hex.{lower_digits}
use Rattle.std.proofs.lemmas.List.{length-take-le, get_or-take}
use Rattle.trace_text.proofs.Vectors.{block_encoded}
use Rattle.trace_text.proofs.lanes.block_digits.Goals as goal

pub returns : goal.returns
returns c =
    let block : List ℕ = take 16 c.args.bytes.now in
    let here : (k : ℕ) → k < 16 → slice_index c.load-block.result k ≡ slice_index block k =
    λ k h. c.load-block.ensures.each k h ∙ ap (slice_index c.args.bytes.now) (omega arith) ∙ sym (get_or-take 16 c.args.bytes.now k 0 h) in
    c.interleaved.ensures ∙ block_encoded block c.digits_of-high.result c.digits_of-low.result (length-take-le 16 c.args.bytes.now c.requires)
    (record {
      long = c.digits_of-high.ensures.long;
      each = λ k h. c.digits_of-high.ensures.each k h ∙ ap (slice_index lower_digits) (c.high_bits.ensures.each k h ∙ ap (λ b. b / 16) (here k h));
    })
    (record {
      long = c.digits_of-low.ensures.long;
      each = λ k h. c.digits_of-low.ensures.each k h ∙ ap (slice_index lower_digits) (c.low_bits.ensures.each k h ∙ ap (λ b. b % 16) (here k h));
    })
