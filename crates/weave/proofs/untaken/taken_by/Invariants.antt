use Rattle.std.proofs.Common.{◌≡◌, map, take}
use Rattle.weave.specs.ByStamp.{envelopes_at}
use Rattle.weave.specs.Placed.{acts_in, placed}
use Rattle.weave.specs.Wanted.{taken_by}
use Rattle.weave.proofs.untaken.taken_by.Given as goal

-- what the entries so far took in
abbrev pub invariant-loop-act : goal.invariant-loop-act
invariant-loop-act g l =
    envelopes_at l.taken.items ≡ taken_by l.receiver (acts_in (map (placed (map g.S.Strand.history l.strands)) (take l.act-index l.acts)))
