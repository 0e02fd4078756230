use Rattle.overlay_harness.proofs.Least.{few_nodes}
use Rattle.overlay_harness.proofs.runs.run.Goals as goal

pub run_by_threads-requires : goal.run_by_threads-requires
run_by_threads-requires g c = (c.type_bounds.sync-R, (c.type_bounds.sync-T, few_nodes c.args.scenario.now c.in_ok-refuse_unfit.ensures.fit))
