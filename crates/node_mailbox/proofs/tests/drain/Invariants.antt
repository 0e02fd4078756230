use Rattle.std.proofs.Common.{◌≡◌}
use Rattle.node_mailbox.proofs.tests.drain.Given as goal

abbrev pub invariant-loop : goal.invariant-loop
invariant-loop g l = record { pass : l.pass.mailbox ≡ l.mailbox }
