use Rattle.coverage.proofs.Settled.{settled_law}
use Rattle.coverage.proofs.laws.coverage_law.Goals as goal

pub returns : goal.returns
returns c = settled_law
