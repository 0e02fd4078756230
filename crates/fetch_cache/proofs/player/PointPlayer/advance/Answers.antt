use Rattle.std.proofs.Common.{◌≡◌, List, sym, subst, ap, ◌∙◌}
use Rattle.scenario_reader.specs.declared.action.Action.{Action}
use Rattle.play_engine.specs.Advance.{IsNext, moved_to, next_turn}
use Rattle.play_engine.specs.Coming.{CanCome}
use Rattle.play_engine.specs.Progress.{PlaysOn, Progress}
use Rattle.play_engine.proofs.Going.{can_come}
use Rattle.fetch_cache.specs.Going.{PointProgress, TakesTurn, Took}
use Rattle.fetch_cache.proofs.Taking.{moved, took_goes, took_next, took_none}
use Rattle.fetch_cache.proofs.player.PointPlayer.advance.Goals as goal

pub take-requires : goal.take-requires
take-requires c =
    let same = ap (λ (a : PointProgress). a.progress) c.self.view_is in
    subst (λ (a : Progress). CanCome c.actions-actions.result.now a c.next-turn.result) (sym c.next-turn.ensures.same)
    (subst (λ (xs : List Action). CanCome xs c.self.inside.player c.next-turn.result) (sym c.actions-actions.ensures.value)
    (can_come c.args.scenario.now c.self.inside.player c.next-turn.new.cursor c.next-turn.result c.actions-actions.ensures.rules
    (subst (λ (a : Progress). PlaysOn c.args.scenario.now a) (sym same) c.requires) c.next-turn.ensures.next))

-- ---- no turn was left

pub returns-then-not-branch-clause-turn : goal.returns-then-not-branch-clause-turn
returns-then-not-branch-clause-turn c =
    let s = c.args.scenario.now in
    let a = c.args.self.now in
    let asked : PointProgress = record {
      progress = c.next-turn.new.self;
      points = c.self.inside.points.items;
      hits = c.self.inside.hits;
      fetches = c.self.inside.fetches.items;
    } in
    let same : asked ≡ a = ap (λ (p : Progress). record asked { progress = p }) c.next-turn.ensures.same ∙ c.self.view_is in
    let next = subst (λ (p : Progress). IsNext s p c.next-turn.new.cursor c.next-turn.result) (ap (λ (b : PointProgress). b.progress) c.self.view_is)
    c.next-turn.ensures.next in
    took_none s a c.take.new.self c.next-turn.new.cursor c.next-turn.result next
    (subst (λ more. Took c.next-turn.result (next_turn s a.progress).step more a c.take.new.self) c.if-not-branch.true
    (took_next s a asked c.take.new.self c.next-turn.new.cursor c.next-turn.result c.actions-actions.result.now _ c.actions-actions.ensures.value same next
    c.in_ok-take.ensures))

pub returns-then-not-branch-clause-on : goal.returns-then-not-branch-clause-on
returns-then-not-branch-clause-on c =
    subst (λ (b : PointProgress). PlaysOn c.args.scenario.now b.progress) (sym (returns-then-not-branch-clause-turn c).1) c.requires

-- ---- a turn was taken

pub returns-clause-on : goal.returns-clause-on
returns-clause-on c =
    let s = c.args.scenario.now in
    let a = c.args.self.now in
    let asked : PointProgress = record {
      progress = c.next-turn.new.self;
      points = c.self.inside.points.items;
      hits = c.self.inside.hits;
      fetches = c.self.inside.fetches.items;
    } in
    let same : asked ≡ a = ap (λ (p : Progress). record asked { progress = p }) c.next-turn.ensures.same ∙ c.self.view_is in
    let next = subst (λ (p : Progress). IsNext s p c.next-turn.new.cursor c.next-turn.result) (ap (λ (b : PointProgress). b.progress) c.self.view_is)
    c.next-turn.ensures.next in
    let goes = took_goes s a c.take.new.self c.next-turn.new.cursor c.next-turn.result c.actions-actions.ensures.rules c.requires next
    (subst (λ more. Took c.next-turn.result (next_turn s a.progress).step more a c.take.new.self) c.if-not-branch.false
    (took_next s a asked c.take.new.self c.next-turn.new.cursor c.next-turn.result c.actions-actions.result.now _ c.actions-actions.ensures.value same next
    c.in_ok-take.ensures)) in
    subst (λ (p : Progress). PlaysOn s p)
    (sym (c.move_to.ensures ∙ ap (λ (b : PointProgress). moved_to c.next-turn.new.cursor b.progress) c.self-2.view_is)) goes.on

pub returns-clause-turn : goal.returns-clause-turn
returns-clause-turn c =
    let s = c.args.scenario.now in
    let a = c.args.self.now in
    let asked : PointProgress = record {
      progress = c.next-turn.new.self;
      points = c.self.inside.points.items;
      hits = c.self.inside.hits;
      fetches = c.self.inside.fetches.items;
    } in
    let same : asked ≡ a = ap (λ (p : Progress). record asked { progress = p }) c.next-turn.ensures.same ∙ c.self.view_is in
    let next = subst (λ (p : Progress). IsNext s p c.next-turn.new.cursor c.next-turn.result) (ap (λ (b : PointProgress). b.progress) c.self.view_is)
    c.next-turn.ensures.next in
    let goes = took_goes s a c.take.new.self c.next-turn.new.cursor c.next-turn.result c.actions-actions.ensures.rules c.requires next
    (subst (λ more. Took c.next-turn.result (next_turn s a.progress).step more a c.take.new.self) c.if-not-branch.false
    (took_next s a asked c.take.new.self c.next-turn.new.cursor c.next-turn.result c.actions-actions.result.now _ c.actions-actions.ensures.value same next
    c.in_ok-take.ensures)) in
    let taken : PointProgress = record {
      progress = c.move_to.new.self;
      points = c.self-2.inside.points.items;
      hits = c.self-2.inside.hits;
      fetches = c.self-2.inside.fetches.items;
    } in
    subst (λ (b : PointProgress). TakesTurn s a b)
    (sym (ap (λ (p : Progress). record taken { progress = p }) c.move_to.ensures ∙ ap (moved c.next-turn.new.cursor) c.self-2.view_is)) goes.turn
