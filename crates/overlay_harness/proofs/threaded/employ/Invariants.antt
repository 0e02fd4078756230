use Rattle.std.proofs.Common.{◌≡◌, ◌-◌, take}
use Rattle.node_mailbox.specs.Post.{AreOf}
use Rattle.node_mailbox.specs.declared.limits.TheConstants.{ALL_PARTS}
use Rattle.overlay_harness.specs.Driven.{fresh_passes, new_workers}
use Rattle.overlay_harness.proofs.threaded.employ.Given as goal

-- a part of each mailbox is given for each node so far
abbrev pub invariant-loop-node : goal.invariant-loop-node
invariant-loop-node g l = record {
  of : AreOf l.own l.post;
  own : l.own ≡ fresh_passes l.post (ALL_PARTS - l.node-index);
  workers : l.workers.items ≡ new_workers l.post l.scenario.founder (take l.node-index l.nodes);
}
