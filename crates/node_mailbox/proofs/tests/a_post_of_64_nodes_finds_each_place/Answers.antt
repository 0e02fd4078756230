use Rattle.std.proofs.Common.{◌≤◌, subst, sym, arith}
use Rattle.std.specs.Prelude.{All}
use Rattle.std.proofs.lemmas.List.Elements.{All-map}
use Rattle.node_mailbox.specs.Pass.{PassView, fresh_pass}
use Rattle.node_mailbox.proofs.tests.a_post_of_64_nodes_finds_each_place.Goals as goal
use Rattle.node_mailbox.specs.declared.limits.TheConstants.{ALL_PARTS}

pub split-requires-clause-two : goal.split-requires-clause-two
split-requires-clause-two g c =
    let HasTwo : PassView → Type 0 = λ pass. 2 ≤ pass.parts in
    subst (All HasTwo) (sym c.in_ok-post.ensures.passes)
    (All-map HasTwo (λ mailbox. fresh_pass mailbox ALL_PARTS) c.in_ok-post.post.mailboxes (λ k d lt. omega arith))
