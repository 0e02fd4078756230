use Rattle.std.proofs.Common.{◌+◌, drop, subst, sym}
use Rattle.group_play.proofs.Happening.{IsPlayedTo, can_act, played_at_start, played_here, played_next}
use Rattle.group_play.proofs.play.play_actions.Goals as goal

pub loop-action-init : goal.loop-action-init
loop-action-init c = record {
  plays = c.new-play.ensures.plays c.args.world.now;
  played = played_at_start c.args.world.now c.args.actions.now c.new-play.result.writer.entries c.requires c.new-play.ensures.entries;
}

pub act-requires-clause-may : goal.act-requires-clause-may
act-requires-clause-may c =
    let i = c.loop-action.action-index in
    let es = c.loop-action.play.writer.entries in
    can_act c.args.world.now c.args.actions.now (drop (i + 1) c.args.actions.now) c.action-item.result es
    (played_here c.args.world.now c.args.actions.now es i c.action-item.result c.loop-action-test.true c.action-item.is c.loop-action.invariant.played)

pub loop-action-preserved : goal.loop-action-preserved
loop-action-preserved c =
    let i = c.loop-action.action-index in
    let es = c.loop-action.play.writer.entries in
    let here = played_here c.args.world.now c.args.actions.now es i c.action-item.result c.loop-action-test.true c.action-item.is
    c.loop-action.invariant.played in
    record {
      plays = c.in_ok-act.ensures.plays;
      played =
          subst (IsPlayedTo c.args.world.now c.args.actions.now (drop (i + 1) c.args.actions.now)) (sym c.in_ok-act.ensures.entries)
          (played_next c.args.world.now c.args.actions.now (drop (i + 1) c.args.actions.now) c.action-item.result es here);
    }
