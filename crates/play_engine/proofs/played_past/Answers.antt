use Rattle.std.proofs.Common.{◌≡◌, sym, subst}
use Rattle.play_engine.specs.Progress.{IsWhole, Progress}
use Rattle.play_engine.proofs.Wholes.{when_true, when_false, less_left}
use Rattle.play_engine.proofs.played_past.Goals as goal

pub loop-player-smaller : goal.loop-player-smaller
loop-player-smaller g c =
    less_left c.args.scenario.now c.loop-player.player c.advance.new.self (when_true _ _ c.in_ok-advance.field-0 c.if-branch.true c.in_ok-advance.ensures.turn)

pub returns-clause-whole : goal.returns-clause-whole
returns-clause-whole g c =
    let same : c.advance.new.self ≡ c.loop-player.player = when_false _ _ c.in_ok-advance.field-0 c.if-branch.false c.in_ok-advance.ensures.turn in
    subst (λ (a : Progress). IsWhole c.args.scenario.now a.recorded.entries a.skipped) (sym same) (c.in_ok-advance.ensures.exactly.0 c.if-branch.false)
