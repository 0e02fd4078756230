use Rattle.std.proofs.Common.{◌*◌, ◌+◌, ◌<◌, arith}
use Rattle.std.proofs.lemmas.Bool.Decides.{nat_tests}
use Rattle.trace_text.proofs.Digits.{digit_at, no_digits, pair_more, pairs_done}
use Rattle.trace_text.proofs.lanes.read_few.Goals as goal

pub loop-place-init : goal.loop-place-init
loop-place-init c = record { read = λ small. no_digits c.args.text.now c.args.bytes.now; lower = λ lower. omega arith }

pub loop-place-preserved : goal.loop-place-preserved
loop-place-preserved c = record {
  read = λ small.
      let high : c.digit_value-high.result < 16 = grind (arith, nat_tests, small) in
      let low : c.digit_value-low.result < 16 = grind (arith, nat_tests, small) in
      let before : c.loop-place.greatest < 16 = grind (arith, nat_tests, small) in
      pair_more c.args.text.now c.loop-place.bytes c.loop-place.place c.digit_value-high.result c.digit_value-low.result _ (omega arith) (omega arith)
      high low (c.digit_value-high.ensures.digit high) (c.digit_value-low.ensures.digit low) (omega arith) (c.loop-place.invariant.read before);
  lower = λ lower.
      let high = c.digit_value-high.ensures.lower (digit_at c.args.text.now (2 * c.loop-place.place) (omega arith) lower) in
      let low = c.digit_value-low.ensures.lower (digit_at c.args.text.now (2 * c.loop-place.place + 1) (omega arith) lower) in
      let before = c.loop-place.invariant.lower lower in
      grind (arith, nat_tests, high, low, before);
}

pub returns-clause-read : goal.returns-clause-read
returns-clause-read c = λ is. pairs_done c.args.text.now c.loop-place.bytes c.loop-place.place (omega arith) (omega arith)
    (c.loop-place.invariant.read (grind (arith, nat_tests, is)))

pub returns-clause-spelled : goal.returns-clause-spelled
returns-clause-spelled c = λ lower.
    let small = c.loop-place.invariant.lower lower in
    grind (arith, nat_tests, small)
