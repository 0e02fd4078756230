use Rattle.std.proofs.Common.{arith, ap, subst, ◌∙◌, ◌≡◌, ◌<◌, length, slice_index_or, false, List, IsTrue, IsNone}
use Rattle.scenario_reader.specs.declared.action.Action.{Action}
use Rattle.schedule.specs.Cursors.{Spot, event_of}
use Rattle.schedule.proofs.Places.{at_place, copies_at, event_there}
use Rattle.schedule.proofs.cursor.Cursor.next.Goals as goal

pub returns-in-Some-clause-place : goal.returns-in-Some-clause-place
returns-in-Some-clause-place c =
    at_place c.args.self.now c.go_on.new.self _ c.in-Some.ensures.some.step c.in-Some.ensures.some.means
    (omega (arith, c.loop-turn.invariant.forward, c.go_on.ensures.place))

pub begin-requires-clause-copies : goal.begin-requires-clause-copies
begin-requires-clause-copies c =
    rw c.actions-actions.ensures.value
    (copies_at _ _ _ c.args.scenario.now.actions c.self.inside.place _ c.actions-actions.ensures.rules.actions
    (let P : List Action → Type 0 = λ actions. c.self.inside.place < length actions in subst P c.actions-actions.ensures.value c.if-self-actions.false))

pub returns-then-not-begin-clause-turn : goal.returns-then-not-begin-clause-turn
returns-then-not-begin-clause-turn c =
    event_there c.args.scenario.now.actions c.args.self.now c.loop-turn.self c.args.sent c.args.oldest c.self.inside.place c.index-actions-place.result
    (ap (λ (spot : Spot). spot.place) c.self.view_is ∙ c.go_on.ensures.place)
    c.loop-turn.invariant.same c.in_default.ensures.none
    (let P : List Action → Type 0 = λ actions. c.self.inside.place < length actions in subst P c.actions-actions.ensures.value c.if-self-actions.false)
    (let P : List Action → Type 0 = λ actions. c.index-actions-place.result ≡ slice_index_or actions c.self.inside.place c.index-actions-place.result in
    subst P c.actions-actions.ensures.value c.index-actions-place.is)
    (λ none. let P : Action → Type 0 = λ action. IsNone (event_of action.what) in
    let h : IsTrue false = c.if-not-begin.ensures.event.1 (subst P c.index-actions-place.is none) in cc)
