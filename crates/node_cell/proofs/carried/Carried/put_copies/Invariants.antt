use Rattle.std.proofs.Common.{◌≡◌, ◌≤◌, ◌+◌, ◌-◌, ℕ}
use Rattle.node_mailbox.specs.Post.{AreOf}
use Rattle.node_cell.specs.Posting.{with_puts}
use Rattle.node_cell.proofs.carried.Carried.put_copies.Given as goal

-- so many copies were put
abbrev pub invariant-loop-self : goal.invariant-loop-self
invariant-loop-self g l = record {
  of : AreOf l.self.passes l.post;
  put : (n : ℕ) × (n ≤ l.count - l.fn.self.copies) × (l.self ≡ with_puts l.place l.frame n (l.fn.self.copies + n) l.fn.self);
}

abbrev pub decreases-loop-self : goal.decreases-loop-self
decreases-loop-self g l = l.count - l.self.copies
