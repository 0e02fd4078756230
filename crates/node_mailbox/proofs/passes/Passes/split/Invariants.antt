use Rattle.std.proofs.Common.{◌≡◌, ◌≤◌, length, vec_len, vec_capacity}
use Rattle.node_mailbox.specs.Post.{AreOf}
use Rattle.node_mailbox.proofs.Splits.{Splitting}
use Rattle.node_mailbox.proofs.passes.Passes.split.Given as goal

abbrev pub invariant-loop-place : goal.invariant-loop-place
invariant-loop-place g l = record {
  of : AreOf l.self l.post;
  halfway : Splitting l.place l.fn.self l.self l.passes.items;
  count : vec_len l.passes ≡ l.place;
  room : length l.fn.self ≤ vec_capacity l.passes;
}
