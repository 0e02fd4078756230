use Rattle.std.proofs.Common.{◌≡◌, map, refl, arith}
use Rattle.node_mailbox.specs.Pass.{after_split}
use Rattle.cell_trials.proofs.Expected.{expected, expected_on, given_node}
use Rattle.cell_trials.proofs.NewPasses.{all_fresh, can_split, can_split_again, has_mailbox}
use Rattle.cell_trials.proofs.mailboxes.a_node_joins_by_mailboxes.Goals as goal

pub equip-requires-clause-two : goal.equip-requires-clause-two
equip-requires-clause-two g c = can_split c.expect-post.result.0.mailboxes c.expect-post.result.1
    (expected c.new.result c.expect-post.result (λ made. made.1 ≡ all_fresh made.0.mailboxes) c.expect-post.ensures c.new.ensures.passes)

pub equip-requires-2-clause-two : goal.equip-requires-2-clause-two
equip-requires-2-clause-two g c = can_split_again c.expect-post.result.0.mailboxes c.expect-post.result.1 c.equip.new.own
    (expected c.new.result c.expect-post.result (λ made. made.1 ≡ all_fresh made.0.mailboxes) c.expect-post.ensures c.new.ensures.passes)
    (expected_on c.equip.result c.expect.result (c.equip.new.own ≡ map after_split c.expect-post.result.1) c.expect.ensures c.equip.ensures.own)

pub joins_by_mailboxes-requires-clause-nodes : goal.joins_by_mailboxes-requires-clause-nodes
joins_by_mailboxes-requires-clause-nodes g c = (
  has_mailbox c.expect-post.result.0.nodes _ _ c.equip.new.cell (expected c.new.result c.expect-post.result _ c.expect-post.ensures c.new.ensures.nodes)
      (0, omega arith, refl)
      (given_node c.expect-one.result c.equip.new.cell _ _ _ (expected_on c.equip.result c.expect.result _ c.expect.ensures c.equip.ensures.cell)
      (expected c.new-2.result c.expect-one.result _ c.expect-one.ensures c.new-2.ensures)),
  has_mailbox c.expect-post.result.0.nodes _ _ c.equip-2.new.cell (expected c.new.result c.expect-post.result _ c.expect-post.ensures c.new.ensures.nodes)
      (1, omega arith, refl)
      (given_node c.expect-two.result c.equip-2.new.cell _ _ _ (expected_on c.equip-2.result c.expect-2.result _ c.expect-2.ensures c.equip-2.ensures.cell)
      (expected c.new-3.result c.expect-two.result _ c.expect-two.ensures c.new-3.ensures)),
)
