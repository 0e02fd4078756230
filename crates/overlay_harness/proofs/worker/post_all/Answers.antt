use Rattle.std.proofs.Common.{refl}
use Rattle.node_cell.proofs.Serves.{goes_on_refl}
use Rattle.overlay_harness.proofs.worker.post_all.Goals as goal

pub loop-init : goal.loop-init
loop-init g c = record { passes = c.requires.passes; goes_on = goes_on_refl c.args.cell.now; history = refl }
