use Rattle.node_mailbox.proofs.Steps.{pushes}
use Rattle.node_mailbox.proofs.mailbox.Mailbox.put.Goals as goal

pub push_as-requires-clause-rule : goal.push_as-requires-clause-rule
push_as-requires-clause-rule g c n = pushes n _ _ _ c.pass.invariant.2
