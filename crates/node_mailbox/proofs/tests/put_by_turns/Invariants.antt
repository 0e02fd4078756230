use Rattle.std.proofs.Common.{◌≡◌}
use Rattle.node_mailbox.proofs.tests.put_by_turns.Given as goal

abbrev pub invariant-loop-number : goal.invariant-loop-number
invariant-loop-number g l = record { even : l.even.mailbox ≡ l.mailbox; odd : l.odd.mailbox ≡ l.mailbox }
