use Rattle.node_mailbox.specs.Post.{AreOf}
use Rattle.cell_trials.proofs.mailboxes.frames_in_first.Given as goal

abbrev pub invariant-loop-count : goal.invariant-loop-count
invariant-loop-count g l = record { of : AreOf l.own l.post }
