use Rattle.scribe_core.proofs.Cut.{place-within}
use Rattle.scribe_core.proofs.group_record.GroupRecord.at.Goals as goal

pub at-requires-clause-within : goal.at-requires-clause-within
at-requires-clause-within c = place-within c.self.inside.lists c.args.self.now c.args.place c.self.view_is c.requires

pub at-requires-clause-order : goal.at-requires-clause-order
at-requires-clause-order c = c.self.invariant.order
