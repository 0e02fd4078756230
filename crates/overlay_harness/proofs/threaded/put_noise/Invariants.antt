use Rattle.node_mailbox.specs.Post.{AreOf}
use Rattle.overlay_harness.specs.Driven.{PutNoise}
use Rattle.overlay_harness.proofs.threaded.put_noise.Given as goal

abbrev pub invariant-loop-action : goal.invariant-loop-action
invariant-loop-action g l = record { of : AreOf l.own l.post; noise : PutNoise l.fn.own l.own }
