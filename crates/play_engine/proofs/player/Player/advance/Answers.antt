use Rattle.std.proofs.Common.{List, rules, refl, sym, subst, ap, ◌∙◌}
use Rattle.scenario_reader.specs.declared.action.Action.{Action}
use Rattle.schedule.specs.Playing.{IsBeginning}
use Rattle.schedule.specs.Schedule.{play_of}
use Rattle.play_engine.specs.Advance.{TakesTurn, progress_after}
use Rattle.play_engine.specs.Coming.{CanCome}
use Rattle.play_engine.specs.Progress.{Plays, Progress, play_in}
use Rattle.play_engine.proofs.Going.{can_come, begins}
use Rattle.play_engine.proofs.Wholes.{not_complete, stays, goes}
use Rattle.play_engine.proofs.player.Player.advance.Goals as goal

pub make-requires : goal.make-requires
make-requires c = record {
  can = subst (λ (a : Progress). CanCome c.actions-actions.result.now a c.next-turn.result) (sym c.next-turn.ensures.same)
      (subst (λ (xs : List Action). CanCome xs c.args.self.now c.next-turn.result) (sym c.actions-actions.ensures.value)
      (can_come c.args.scenario.now c.args.self.now c.next-turn.new.cursor c.next-turn.result c.actions-actions.ensures.rules c.requires.plays.on
      c.next-turn.ensures.next));
}

pub returns-in_err-make-clause-so_far : goal.returns-in_err-make-clause-so_far
returns-in_err-make-clause-so_far c =
    subst (λ (a : Progress). IsBeginning (play_in a) (play_of c.args.scenario.now)) (sym (c.in_err-make.ensures.err ∙ c.next-turn.ensures.same))
    (begins c.args.scenario.now c.args.self.now c.requires.plays)

pub returns-in_err-make-clause-refused : goal.returns-in_err-make-clause-refused
returns-in_err-make-clause-refused c =
    let left = not_complete c.args.scenario.now c.args.self.now c.next-turn.new.cursor c.next-turn.result c.actions-actions.ensures.rules
    c.requires.plays c.next-turn.ensures.next c.in_err-make.ensures.refused in search (rules, left)

pub returns-then-not-branch-clause-plays : goal.returns-then-not-branch-clause-plays
returns-then-not-branch-clause-plays c =
    (stays c.args.scenario.now c.args.self.now c.make.new.self c.next-turn.new.cursor c.next-turn.result c.actions-actions.result.now
    c.actions-actions.ensures.value c.requires.plays c.next-turn.ensures.next
    (λ step is. c.in_ok-make.ensures.made step is ∙ ap (progress_after step) c.next-turn.ensures.same)
    (sym c.in_ok-make.ensures.answer ∙ c.if-not-branch.true)).plays

pub returns-then-not-branch-clause-so_far : goal.returns-then-not-branch-clause-so_far
returns-then-not-branch-clause-so_far c =
    (stays c.args.scenario.now c.args.self.now c.make.new.self c.next-turn.new.cursor c.next-turn.result c.actions-actions.result.now
    c.actions-actions.ensures.value c.requires.plays c.next-turn.ensures.next
    (λ step is. c.in_ok-make.ensures.made step is ∙ ap (progress_after step) c.next-turn.ensures.same)
    (sym c.in_ok-make.ensures.answer ∙ c.if-not-branch.true)).so_far

pub returns-then-not-branch-clause-turn : goal.returns-then-not-branch-clause-turn
returns-then-not-branch-clause-turn c = (stays c.args.scenario.now c.args.self.now c.make.new.self c.next-turn.new.cursor c.next-turn.result
    c.actions-actions.result.now
    c.actions-actions.ensures.value c.requires.plays c.next-turn.ensures.next
    (λ step is. c.in_ok-make.ensures.made step is ∙ ap (progress_after step) c.next-turn.ensures.same)
    (sym c.in_ok-make.ensures.answer ∙ c.if-not-branch.true)).same

pub returns-then-not-branch-clause-exactly : goal.returns-then-not-branch-clause-exactly
returns-then-not-branch-clause-exactly c = (
  λ none. (stays c.args.scenario.now c.args.self.now c.make.new.self c.next-turn.new.cursor c.next-turn.result c.actions-actions.result.now
      c.actions-actions.ensures.value c.requires.plays c.next-turn.ensures.next
      (λ step is. c.in_ok-make.ensures.made step is ∙ ap (progress_after step) c.next-turn.ensures.same)
      (sym c.in_ok-make.ensures.answer ∙ c.if-not-branch.true)).whole,
  λ all. refl,
)

pub returns-clause-plays : goal.returns-clause-plays
returns-clause-plays c =
    subst (λ (b : Progress). Plays c.args.scenario.now b) (sym c.move_to.ensures)
    (goes c.args.scenario.now c.args.self.now c.make.new.self c.next-turn.new.cursor c.next-turn.result c.actions-actions.result.now
    c.actions-actions.ensures.rules c.actions-actions.ensures.value c.requires.plays c.next-turn.ensures.next
    (λ step is. c.in_ok-make.ensures.made step is ∙ ap (progress_after step) c.next-turn.ensures.same)
    (sym c.in_ok-make.ensures.answer ∙ c.if-not-branch.false)).plays

pub returns-clause-so_far : goal.returns-clause-so_far
returns-clause-so_far c =
    subst (λ (b : Progress). IsBeginning (play_in b) (play_of c.args.scenario.now)) (sym c.move_to.ensures)
    (goes c.args.scenario.now c.args.self.now c.make.new.self c.next-turn.new.cursor c.next-turn.result c.actions-actions.result.now
    c.actions-actions.ensures.rules c.actions-actions.ensures.value c.requires.plays c.next-turn.ensures.next
    (λ step is. c.in_ok-make.ensures.made step is ∙ ap (progress_after step) c.next-turn.ensures.same)
    (sym c.in_ok-make.ensures.answer ∙ c.if-not-branch.false)).so_far

pub returns-clause-turn : goal.returns-clause-turn
returns-clause-turn c =
    subst (λ (b : Progress). TakesTurn c.args.scenario.now c.args.self.now b) (sym c.move_to.ensures)
    (goes c.args.scenario.now c.args.self.now c.make.new.self c.next-turn.new.cursor c.next-turn.result c.actions-actions.result.now
    c.actions-actions.ensures.rules c.actions-actions.ensures.value c.requires.plays c.next-turn.ensures.next
    (λ step is. c.in_ok-make.ensures.made step is ∙ ap (progress_after step) c.next-turn.ensures.same)
    (sym c.in_ok-make.ensures.answer ∙ c.if-not-branch.false)).turn

pub returns-clause-exactly : goal.returns-clause-exactly
returns-clause-exactly c = (
  λ none. cc,
  λ all. absurd ((goes c.args.scenario.now c.args.self.now
      c.make.new.self
      c.next-turn.new.cursor c.next-turn.result c.actions-actions.result.now
      c.actions-actions.ensures.rules c.actions-actions.ensures.value c.requires.plays c.next-turn.ensures.next
      (λ step is. c.in_ok-make.ensures.made step is ∙ ap (progress_after step) c.next-turn.ensures.same)
      (sym c.in_ok-make.ensures.answer ∙ c.if-not-branch.false)).not_whole all),
)
