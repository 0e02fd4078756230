use Rattle.play_engine.proofs.Wholes.{whole_record, legal_record}
use Rattle.play_engine.proofs.play_past.Goals as goal

pub returns-clause-played : goal.returns-clause-played
returns-clause-played g c =
    whole_record c.args.scenario.now c.in_ok-player.player.recorded.entries _ c.in_ok-player.player.skipped _ c.in_ok-player.ensures.whole
    c.finish.ensures.entries c.finish.ensures.skipped

pub returns-clause-legal : goal.returns-clause-legal
returns-clause-legal g c =
    legal_record c.args.scenario.now c.in_ok-player.player _ c.in_ok-player.ensures.plays.on c.finish.ensures.legal c.finish.ensures.entries
