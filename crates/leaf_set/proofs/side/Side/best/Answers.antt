use Rattle.std.proofs.Common.{sym, ◌∙◌}
use Rattle.leaf_set.proofs.Found.{found_better, found_no_better}
use Rattle.leaf_set.proofs.side.Side.best.Goals as goal
use Rattle.leaf_set.proofs.side.Side.best.Goals.{then-improves, else-improves}

pub loop-id-preserved : goal.loop-id-preserved
loop-id-preserved c =
    elim c.if-improves.branch [
      | then-improves w ↦ rw (w.best-is, w.nearer_of-best.ensures)
          (found_better c.args.key c.args.least c.args.than _ _ c.id-item.result c.loop-id.best c.loop-id-test.true c.id-item.is
          (sym c.improves.ensures ∙ w.if-improves.true) c.loop-id.invariant)
      | else-improves w ↦ rw w.best-is
          (found_no_better c.args.key c.args.least c.args.than _ _ c.id-item.result c.loop-id.best c.loop-id-test.true c.id-item.is
          (sym c.improves.ensures ∙ w.if-improves.false) c.loop-id.invariant)
    ]
