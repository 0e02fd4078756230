use Rattle.std.proofs.Common.{◌≡◌, ◌≤◌, take}
use Rattle.svg_text.specs.Labels.{rank_in}
use Rattle.svg_text.proofs.label.rank.Given as goal

-- the lesser ones so far are counted
abbrev pub invariant-loop-other : goal.invariant-loop-other
invariant-loop-other l = record {
  below : l.less ≤ l.other-index;
  counted : l.less ≡ rank_in (take l.other-index l.ids) l.fn.id;
}
