use Rattle.std.proofs.Common.{◌≡◌, OnOk, Some, sym, subst}
use Rattle.schedule.specs.Cursors.{step_of}
use Rattle.schedule.specs.Turns.{Step}
use Rattle.play_engine.specs.Coming.{CanCome}
use Rattle.play_engine.proofs.Wholes.{when_false}
use Rattle.fetch_cache.specs.Going.{PointProgress, made_of}
use Rattle.fetch_cache.proofs.Taking.{took_made}
use Rattle.fetch_cache.proofs.player.PointPlayer.take.Goals as goal

pub make-requires : goal.make-requires
make-requires c =
    subst (λ (a : PointProgress). CanCome c.args.actions.now a.progress c.args.turn) (sym (c.in_ok-answer.ensures.stays c.if-branch.false)) c.requires

pub returns : goal.returns
returns c =
    let stays = c.in_ok-answer.ensures.stays c.if-branch.false in
    took_made c.args.actions.now c.args.turn c.make.result c.args.self.now c.make.new.self
    (λ step is. when_false _ _ c.in_ok-answer.field-0 c.if-branch.false (c.in_ok-answer.ensures.answer step is))
    c.make.ensures.answer
    (subst (λ (a : PointProgress). OnOk c.make.result ((step : Step) → step_of c.args.actions.now c.args.turn ≡ Some step → c.make.new.self ≡ made_of step a))
    stays c.make.ensures.made)
