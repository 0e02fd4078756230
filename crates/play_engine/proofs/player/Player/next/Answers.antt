use Rattle.std.proofs.Common.{length, ap, ◌∙◌}
use Rattle.overlay_rules.specs.Played.{oldest_undelivered}
use Rattle.overlay_rules.specs.Record.{sent_in}
use Rattle.world_model.specs.Recorded.{world_of}
use Rattle.play_engine.specs.Progress.{Progress}
use Rattle.play_engine.proofs.Going.{is_next}
use Rattle.play_engine.proofs.player.Player.next.Goals as goal

pub returns-clause-next : goal.returns-clause-next
returns-clause-next c =
    is_next c.args.scenario.now c.args.self.now _ _ _ _ _ c.requires.at
    (c.sent_len-sent.ensures ∙ ap (λ (a : Progress). length (sent_in a.recorded.entries)) c.self.view_is)
    (c.oldest_undelivered-oldest.ensures ∙ ap (λ (a : Progress). oldest_undelivered (world_of a.recorded)) c.self.view_is)
    c.next.ensures.turn c.next.ensures.left c.next.ensures.copies c.next.ensures.place
