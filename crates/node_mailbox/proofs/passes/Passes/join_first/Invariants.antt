use Rattle.std.proofs.Common.{◌≡◌, ◌≤◌, ◌<◌, ℕ, length, vec_len}
use Rattle.node_mailbox.specs.Pass.{TookOnlyPut}
use Rattle.node_mailbox.specs.Post.{AreOf, AreOfFirst, pass_at, after_joins}
use Rattle.node_mailbox.proofs.passes.Passes.join_first.Given as goal

abbrev pub invariant-loop-pass : goal.invariant-loop-pass
invariant-loop-pass g l = record {
  of : AreOf l.self l.post;
  passes : AreOfFirst l.passes.items l.post;
  joined : after_joins l.self l.passes.items ≡ after_joins l.fn.self l.fn.passes.items;
  was_put : (place : ℕ) → length l.passes.items ≤ place → place < length l.fn.passes.items → TookOnlyPut (pass_at l.self place);
}

abbrev pub decreases-loop-pass : goal.decreases-loop-pass
decreases-loop-pass g l = vec_len l.passes
