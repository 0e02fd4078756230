use Rattle.std.proofs.Common.{ap}
use Rattle.coverage.specs.NextHop.{to_nearest}
use Rattle.lookup_core.proofs.hop.to_leaf.Goals as goal

pub returns-in-Some : goal.returns-in-Some
returns-in-Some c = λ list st others. ap to_nearest (c.in-Some.ensures list st others)

pub returns-in-None : goal.returns-in-None
returns-in-None c = λ list st others. ap to_nearest (c.in-None.ensures list st others)
