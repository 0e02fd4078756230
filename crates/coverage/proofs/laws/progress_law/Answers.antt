use Rattle.coverage.proofs.Progress.{link_is_nearer, leaf_is_nearer}
use Rattle.coverage.proofs.Hops.{next_hop-names}
use Rattle.coverage.proofs.laws.progress_law.Goals as goal

pub returns-clause-link : goal.returns-clause-link
returns-clause-link c = link_is_nearer

pub returns-clause-leaf : goal.returns-clause-leaf
returns-clause-leaf c = leaf_is_nearer

pub returns-clause-hop : goal.returns-clause-hop
returns-clause-hop c = next_hop-names
