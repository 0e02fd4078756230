use Rattle.schedule.proofs.Ending.{work}
use Rattle.play_engine.specs.Progress.{PlaysOn, left_in}
use Rattle.fetch_cache.proofs.Leading.{HasCome}
use Rattle.fetch_cache.proofs.play_points.Given as goal

abbrev pub invariant-loop-player : goal.invariant-loop-player
invariant-loop-player l = record {
  on : PlaysOn l.scenario l.player.progress;
  come : HasCome l.scenario l.fn.room l.player;
}

-- each turn takes at least one from those that are left
abbrev pub decreases-loop-player : goal.decreases-loop-player
decreases-loop-player l = work l.player.progress.spot.copies (left_in l.scenario l.player.progress)
