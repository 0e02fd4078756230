use Rattle.node_mailbox.proofs.Steps.{pops, learns, pop_only_put, pop_all_put}
use Rattle.node_mailbox.proofs.mailbox.Mailbox.take.Goals as goal

pub pop_as-requires-clause-rule : goal.pop_as-requires-clause-rule
pop_as-requires-clause-rule g c = (pops _ _ c.pass.invariant.2, learns _ _)

pub returns-clause-was_put : goal.returns-clause-was_put
returns-clause-was_put g c = record { whole = (pop_only_put _ _ _ _ c.pop_as.ensures.rule).whole }

pub returns-clause-was_empty : goal.returns-clause-was_empty
returns-clause-was_empty g c = pop_all_put _ _ _ _ _ c.pop_as.ensures.rule
