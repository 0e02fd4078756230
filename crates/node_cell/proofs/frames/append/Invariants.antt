use Rattle.std.proofs.Common.{◌≡◌, ◌≤◌, ◌+◌, ◌++◌}
use Rattle.std.specs.VecDeque.{deque_len, deque_capacity}
use Rattle.std.specs.Vec.Iter.{into_iter_items, into_iter_len}
use Rattle.node_cell.proofs.frames.append.Given as goal

-- those so far are added, and there is room for the others
abbrev pub invariant-loop-frame : goal.invariant-loop-frame
invariant-loop-frame l = record {
  all : l.fn.frames.items ≡ l.yielded ++ into_iter_items l.frame-iterator;
  added : l.unsent.items ≡ l.fn.unsent.items ++ l.yielded;
  room : deque_len l.unsent + into_iter_len l.frame-iterator ≤ deque_capacity l.unsent;
}
