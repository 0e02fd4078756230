use Rattle.std.proofs.Common.{ap, ◌∙◌}
use Rattle.play_engine.proofs.Wholes.{when_false, when_true}
use Rattle.fetch_cache.specs.Going.{PointProgress}
use Rattle.fetch_cache.proofs.Leading.{come_further, comes_to_end, less_left}
use Rattle.fetch_cache.proofs.play_points.Goals as goal

pub loop-player-smaller : goal.loop-player-smaller
loop-player-smaller c =
    less_left c.args.scenario.now c.loop-player.player c.advance.new.self
    (when_true _ _ c.in_ok-advance.field-0 c.if-branch.true c.in_ok-advance.ensures.turn)

pub loop-player-preserved : goal.loop-player-preserved
loop-player-preserved c = record {
  on = c.in_ok-advance.ensures.on;
  come = come_further c.args.scenario.now c.args.room c.loop-player.player c.advance.new.self c.loop-player.invariant.come
      (when_true _ _ c.in_ok-advance.field-0 c.if-branch.true c.in_ok-advance.ensures.turn);
}

pub returns-clause-run : goal.returns-clause-run
returns-clause-run c =
    let ended = when_false _ _ c.in_ok-advance.field-0 c.if-branch.false c.in_ok-advance.ensures.turn in
    comes_to_end c.args.scenario.now c.args.room c.loop-player.player _ _ _ c.loop-player.invariant.come ended.0
    (c.finish-steps.ensures.entries ∙ ap (λ (a : PointProgress). a.progress.recorded.entries) ended.1)
    (c.finish-steps.ensures.skipped ∙ ap (λ (a : PointProgress). a.progress.skipped) ended.1)
    (c.finish-steps.ensures.hits ∙ ap (λ (a : PointProgress). a.hits) ended.1)
