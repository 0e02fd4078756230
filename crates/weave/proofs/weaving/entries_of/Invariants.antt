use Rattle.std.proofs.Common.{map, take}
use Rattle.std.specs.List.{AllZip}
use Rattle.weave_laws.specs.Woven.{IsEntryOf}
use Rattle.weave.specs.Growing.{IsEmptied, IsTabled, StillStand}
use Rattle.weave.specs.Placed.{acts_in, placed, sent_by}
use Rattle.weave.proofs.weaving.entries_of.Given as goal

-- what the entries so far became, and that the others are as they were
abbrev pub invariant-loop-act : goal.invariant-loop-act
invariant-loop-act g l = record {
  became : AllZip (IsEntryOf (sent_by (acts_in (map (placed (map g.S.Strand.history l.fn.strands)) l.acts))))
      (acts_in (map (placed (map g.S.Strand.history l.fn.strands)) (take l.act-index l.acts))) l.weaving.entries;
  emptied : IsEmptied l.weaving;
  tabled : IsTabled l.weaving;
  others : StillStand (map g.S.Strand.history l.fn.strands) (map g.S.Strand.history l.strands) l.acts l.act-index;
}
