use Rattle.std.proofs.Common.{◌≡◌}
use Rattle.cell_trials.proofs.Expected.{expected}
use Rattle.cell_trials.proofs.NewPasses.{all_fresh, can_split}
use Rattle.cell_trials.proofs.mailboxes.three_copies_are_three_in_all.Goals as goal

pub equip-requires-clause-two : goal.equip-requires-clause-two
equip-requires-clause-two g c = can_split c.expect-post.result.0.mailboxes c.expect-post.result.1
    (expected c.new.result c.expect-post.result (λ made. made.1 ≡ all_fresh made.0.mailboxes) c.expect-post.ensures c.new.ensures.passes)
