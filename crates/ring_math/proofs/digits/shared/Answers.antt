use Rattle.std.proofs.Common.{◌<◌, ◌^◌, arith}
use Rattle.ring_math.proofs.Prefixes.{leading_digits, digit_of-shared}
use Rattle.ring_math.proofs.digits.shared.Goals as goal

pub returns-clause-value : goal.returns-clause-value
returns-clause-value c =
    let ha : c.args.a < 2 ^ 128 = omega arith in
    let hb : c.args.b < 2 ^ 128 = omega arith in
    rw (c.a.view_is, c.b.view_is) (leading_digits c.args.a c.args.b ha hb)

pub returns-clause-fewer : goal.returns-clause-fewer
returns-clause-fewer c = λ ne.
    let ha : c.args.a < 2 ^ 128 = omega arith in
    let hb : c.args.b < 2 ^ 128 = omega arith in
    rw (c.a.view_is, c.b.view_is) (omega (arith, leading_digits c.args.a c.args.b ha hb, (digit_of-shared c.args.a c.args.b ha hb ne).0))
