use Rattle.std.proofs.Common.{refl, arith}
use Rattle.cell_trials.proofs.Expected.{expected, expected_on, given_node}
use Rattle.cell_trials.proofs.NewPasses.{has_mailbox}
use Rattle.cell_trials.proofs.mailboxes.a_frame_that_is_refused_stays_in_hand.Goals as goal

pub is_refused_twice-requires-clause-cell : goal.is_refused_twice-requires-clause-cell
is_refused_twice-requires-clause-cell g c = (
  expected_on c.equip.result c.expect.result _ c.expect.ensures c.equip.ensures.of,
  has_mailbox c.expect-post.result.0.nodes _ _ c.equip.new.cell (expected c.new.result c.expect-post.result _ c.expect-post.ensures c.new.ensures.nodes)
      (0, omega arith, refl)
      (given_node c.expect-cell.result c.equip.new.cell _ _ _ (expected_on c.equip.result c.expect.result _ c.expect.ensures c.equip.ensures.cell)
      (expected c.new-2.result c.expect-cell.result _ c.expect-cell.ensures c.new-2.ensures)),
)
