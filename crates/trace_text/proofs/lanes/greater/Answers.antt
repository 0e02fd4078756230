use Rattle.std.specs.Prelude.{nat_lt}
use Rattle.trace_text.proofs.Vectors.{chosen}
use Rattle.trace_text.proofs.lanes.greater.Goals as goal

pub returns : goal.returns
returns c = chosen nat_lt c.args.one c.args.other c.args.other c.args.one c.fits-one.0 c.fits-other.0 c.fits-other.0 c.fits-one.0
