use Rattle.node_mailbox.specs.Post.{AreOf}
use Rattle.node_mailbox.proofs.tests.first_that_fails.Given as goal

abbrev pub invariant-loop-place : goal.invariant-loop-place
invariant-loop-place g l = record { of : AreOf l.passes l.post }

abbrev pub invariant-loop-place-2 : goal.invariant-loop-place-2
invariant-loop-place-2 g l = record { of : AreOf l.passes l.post }
