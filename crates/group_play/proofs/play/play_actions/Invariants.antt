use Rattle.std.proofs.Common.{drop}
use Rattle.group_play.specs.Playing.{IsPlay}
use Rattle.group_play.proofs.Happening.{IsPlayedTo}
use Rattle.group_play.proofs.play.play_actions.Given as goal

-- the actions that are left lead on to the record of all
abbrev pub invariant-loop-action : goal.invariant-loop-action
invariant-loop-action l = record {
  plays : IsPlay l.world l.play;
  played : IsPlayedTo l.world l.actions (drop l.action-index l.actions) l.play.writer.entries;
}
