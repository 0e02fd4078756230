use Rattle.schedule.proofs.Ending.{work}
use Rattle.play_engine.specs.Progress.{Plays, left_in}
use Rattle.play_engine.proofs.played_past.Given as goal

abbrev pub invariant-loop-player : goal.invariant-loop-player
invariant-loop-player g l = record {
  plays : Plays l.scenario l.player;
}

-- each turn takes at least one from those that are left
abbrev pub decreases-loop-player : goal.decreases-loop-player
decreases-loop-player g l = work l.player.spot.copies (left_in l.scenario l.player)
