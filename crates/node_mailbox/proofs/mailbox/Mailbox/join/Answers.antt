use Rattle.std.proofs.Common.{subst, sym}
use Rattle.node_mailbox.specs.Rule.{KnowsTaken}
use Rattle.node_mailbox.proofs.Steps.{merges, learns, look_only_put}
use Rattle.node_mailbox.proofs.mailbox.Mailbox.join.Goals as goal

pub absorb-requires-clause-rule : goal.absorb-requires-clause-rule
absorb-requires-clause-rule g c = merges _ _ _ _ c.into.invariant.2

pub len_as-requires-clause-rule : goal.len_as-requires-clause-rule
len_as-requires-clause-rule g c = learns _ _

pub returns-clause-was_put : goal.returns-clause-was_put
returns-clause-was_put g c = record { whole = (subst KnowsTaken (sym c.len_as.ensures.queue.2) (look_only_put _ _ c.len_as.ensures.rule)).whole }
