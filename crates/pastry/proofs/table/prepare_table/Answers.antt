use Rattle.std.proofs.Common.{ap, ◌∙◌}
use Rattle.world_model.specs.Recorded.{Recorded, setting_of}
use Rattle.play_engine.proofs.Starting.{same_setting}
use Rattle.pastry.proofs.table.prepare_table.Goals as goal

pub message_table-requires : goal.message_table-requires
message_table-requires g c =
    ap (λ (r : Recorded). setting_of r) c.world.ensures ∙ same_setting c.args.scenario.now c.in_ok-player.player c.in_ok-player.ensures.plays.on
