use Rattle.std.proofs.Common.{All, map, take}
use Rattle.weave.specs.ByStamp.{kept_in}
use Rattle.weave.specs.Placed.{Placed, placed}
use Rattle.weave.specs.Wanted.{HasNoWanted}
use Rattle.weave.proofs.untaken.first_untaken.Given as goal

-- the entries so far sent nothing that is sought
abbrev pub invariant-loop-act : goal.invariant-loop-act
invariant-loop-act g l =
    All (λ (p : Placed). HasNoWanted (kept_in l.taken) l.receiver p.act.entry.sent) (map (placed (map g.S.Strand.history l.strands)) (take l.act-index l.acts))
