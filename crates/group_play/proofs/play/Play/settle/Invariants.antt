use Rattle.std.proofs.Common.{◌≡◌, ◌-◌}
use Rattle.scribe_core.specs.Played.{settled}
use Rattle.world_model.specs.Recorded.{world_of}
use Rattle.group_play.specs.Playing.{IsPlay}
use Rattle.group_play.proofs.play.Play.settle.Given as goal

-- what is left to settle leads on to the same record
abbrev pub invariant-loop-turn : goal.invariant-loop-turn
invariant-loop-turn l = record {
  plays : IsPlay l.world l.self;
  ends : settled (world_of l.world) (l.count - l.turn) l.self.writer.entries ≡ settled (world_of l.world) l.count l.initial.self.writer.entries;
}
