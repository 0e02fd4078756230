use Rattle.std.proofs.Common.{◌≡◌, length, map}
use Rattle.node_mailbox.specs.Pass.{fresh_pass}
use Rattle.node_mailbox.proofs.post.Post.new.Given as goal
use Rattle.node_mailbox.specs.declared.limits.TheConstants.{ALL_PARTS}

abbrev pub invariant-loop : goal.invariant-loop
invariant-loop l = record {
  count : length l.mailboxes.items ≡ l.index;
  passes : l.passes.items ≡ map (λ mailbox. fresh_pass mailbox ALL_PARTS) l.mailboxes.items;
}
