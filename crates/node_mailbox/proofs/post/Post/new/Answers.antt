use Rattle.std.proofs.Common.{◌∙◌, ap, map, length, arith}
use Rattle.std.proofs.lemmas.List.{length-map}
use Rattle.node_mailbox.specs.Pass.{fresh_pass, PassView}
use Rattle.node_mailbox.proofs.Posts.{mailboxes-fresh}
use Rattle.node_mailbox.proofs.post.Post.new.Goals as goal
use Rattle.node_mailbox.specs.declared.limits.TheConstants.{ALL_PARTS}

pub returns-clause-of : goal.returns-clause-of
returns-clause-of c =
    let inv = c.loop.invariant in
    record {
      mailboxes = ap (map (λ (p : PassView). p.mailbox)) inv.passes ∙ mailboxes-fresh ALL_PARTS c.loop.mailboxes.items;
      count =
          let same = ap length inv.passes in let long = length-map c.loop.mailboxes.items (λ mailbox. fresh_pass mailbox ALL_PARTS) in
          omega (arith, inv.count, c.loop.auto.index-end, c.loop-test.false, c.in_ok-nodes.ensures.len);
    }
