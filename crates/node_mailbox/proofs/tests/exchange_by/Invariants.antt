use Rattle.std.proofs.Common.{◌≡◌}
use Rattle.node_mailbox.proofs.tests.exchange_by.Given as goal

abbrev pub invariant-loop-number : goal.invariant-loop-number
invariant-loop-number g l = record { pass : l.pass.mailbox ≡ l.mailbox }
