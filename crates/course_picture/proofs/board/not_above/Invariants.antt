use Rattle.std.proofs.Common.{◌≡◌, ◌≤◌, take}
use Rattle.course_picture.specs.Board.{not_above_in}
use Rattle.course_picture.proofs.board.not_above.Given as goal

-- those so far are counted
abbrev pub invariant-loop-other : goal.invariant-loop-other
invariant-loop-other l = record {
  few : l.count ≤ l.other-index;
  counted : l.count ≡ not_above_in (take l.other-index l.ids) l.fn.id;
}
