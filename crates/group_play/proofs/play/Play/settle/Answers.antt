use Rattle.std.proofs.Common.{◌≡◌, ◌∙◌, ◌+◌, ◌-◌, Some, None, ℕ, suc, ap, sym, arith}
use Rattle.scribe_core.specs.Played.{oldest_undelivered, settled}
use Rattle.world_model.specs.Recorded.{world_of}
use Rattle.group_play.proofs.Happening.{settled_idle, settled_next}
use Rattle.group_play.proofs.Listing.{oldest_listed}
use Rattle.group_play.proofs.play.Play.settle.Goals as goal

pub returns-in-None-clause-entries : goal.returns-in-None-clause-entries
returns-in-None-clause-entries c =
    let none : oldest_undelivered c.loop-turn.self.writer.entries ≡ None =
    sym (c.in-None.ensures ∙ oldest_listed c.loop-turn.self.writer.entries c.loop-turn.self.messages c.loop-turn.invariant.plays.messages) in
    sym (settled_idle (world_of c.args.world.now) (c.args.count - c.loop-turn.turn) c.loop-turn.self.writer.entries none) ∙ c.loop-turn.invariant.ends

pub loop-turn-preserved : goal.loop-turn-preserved
loop-turn-preserved c =
    let lt = c.loop-turn-test.true in
    let some : oldest_undelivered c.loop-turn.self.writer.entries ≡ Some c.in-Some.message =
    sym (c.in-Some.ensures ∙ oldest_listed c.loop-turn.self.writer.entries c.loop-turn.self.messages c.loop-turn.invariant.plays.messages) in
    let left : ℕ = c.args.count - (c.loop-turn.turn + 1) in
    let one_more : suc left ≡ c.args.count - c.loop-turn.turn = omega arith in
    record {
      plays = c.in_ok-deliver-in-Some.ensures.plays;
      ends = ap (settled (world_of c.args.world.now) left) c.in_ok-deliver-in-Some.ensures.entries
          ∙ sym (settled_next (world_of c.args.world.now) left c.in-Some.message c.loop-turn.self.writer.entries some)
          ∙ ap (λ (k : ℕ). settled (world_of c.args.world.now) k c.loop-turn.self.writer.entries) one_more ∙ c.loop-turn.invariant.ends;
    }
