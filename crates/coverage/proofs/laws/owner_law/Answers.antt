use Rattle.coverage.proofs.RingSteps.{ring_one, ring_right, ring_owned, ring_kept}
use Rattle.coverage.proofs.laws.owner_law.Goals as goal

pub returns-clause-one : goal.returns-clause-one
returns-clause-one c = ring_one

pub returns-clause-right : goal.returns-clause-right
returns-clause-right c = ring_right

pub returns-clause-owned : goal.returns-clause-owned
returns-clause-owned c = ring_owned

pub returns-clause-kept : goal.returns-clause-kept
returns-clause-kept c = ring_kept
