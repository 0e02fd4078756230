use Rattle.std.specs.List.{AllZip}
use Rattle.overlay_harness.specs.Rounds.{ServedIn}
use Rattle.overlay_harness.specs.Shown.{shown}
use Rattle.overlay_harness.proofs.rounds.run_stage.Given as goal

-- the commands came, and frames within the budget
abbrev pub invariant-loop : goal.invariant-loop
invariant-loop g l = AllZip (ServedIn l.hall.post.now (shown l.stage)) l.fn.workers l.workers
