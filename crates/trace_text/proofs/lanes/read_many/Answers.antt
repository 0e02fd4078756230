use Rattle.std.proofs.Common.{ℕ, ◌+◌, ◌-◌, length, refl, arith}
use Rattle.trace_text.proofs.Digits.{fewer_pairs, no_digits, pairs_done}
use Rattle.trace_text.proofs.lanes.read_many.Goals as goal

pub loop-place-init : goal.loop-place-init
loop-place-init c = record { size = refl; within = omega (arith, c.requires.many); read = no_digits c.args.text.now c.args.bytes.now }

pub returns-clause-read : goal.returns-clause-read
returns-clause-read c = λ is.
    let last : ℕ = length c.args.bytes.now - 16 in
    let size = c.loop-place.invariant.size in
    let same = c.read_block-2.ensures.len in
    let test = c.loop-place-test.false in
    pairs_done c.args.text.now c.read_block-2.new.bytes (last + 16) (omega (arith, c.requires.size, size, same)) (omega (arith, c.requires.many, size, same))
    (c.read_block-2.ensures.read is (fewer_pairs c.args.text.now c.loop-place.bytes c.loop-place.place last (omega (arith, test)) c.loop-place.invariant.read))
