use Rattle.std.proofs.Common.{◌≡◌, map}
use Rattle.node_mailbox.specs.Pass.{after_split}
use Rattle.cell_trials.proofs.Expected.{expected, expected_on}
use Rattle.cell_trials.proofs.NewPasses.{all_fresh, none_put}
use Rattle.cell_trials.proofs.mailboxes.passes_are_gathered.Goals as goal

pub gather-all-requires-clause-noise : goal.gather-all-requires-clause-noise
gather-all-requires-clause-noise g c = none_put c.expect-post.result.0.mailboxes c.expect-post.result.1 c.equip.new.own
    (expected c.new.result c.expect-post.result (λ made. made.1 ≡ all_fresh made.0.mailboxes) c.expect-post.ensures c.new.ensures.passes)
    (expected_on c.equip.result c.expect.result (c.equip.new.own ≡ map after_split c.expect-post.result.1) c.expect.ensures c.equip.ensures.own)
