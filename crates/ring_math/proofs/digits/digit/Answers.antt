use Rattle.std.proofs.Common.{◌-◌}
use Rattle.ring_math.proofs.Prefixes.{masked_digit}
use Rattle.ring_math.proofs.digits.digit.Goals as goal

pub returns : goal.returns
returns c = rw c.id.view_is (masked_digit c.args.id (31 - c.args.row))
