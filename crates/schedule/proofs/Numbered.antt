-- What a player may rest on at an action that it is given: the rules that a scenario keeps there, and that numbers rise.
use Rattle.std.proofs.Common.{◌≡◌, ◌≤◌, ℕ, zero, suc, Option, Some, None, List, [], ◌∷◌, take, slice_get, option_map, option_and_then, refl, subst, arith}
use Rattle.overlay_rules.specs.declared.entry.Event.{Event}
use Rattle.scenario_reader.specs.declared.action.Action.{Action}
use Rattle.scenario_reader.specs.declared.action.What.{What}
use Rattle.scenario_reader.specs.declared.action.What.TheVariants as what
use Rattle.scenario_reader.specs.declared.node.NodeLine.{NodeLine}
use Rattle.scenario_reader.specs.declared.node.FileLine.{FileLine}
use Rattle.scenario_reader.specs.declared.tally.Tally.{Tally}
use Rattle.scenario_reader.specs.Rules.{AreActions, IsWhat}
use Rattle.scenario_reader.specs.Tallies.{tallied, tally_from}
use Rattle.schedule.specs.declared.turn.Turn.TheVariants as turn
use Rattle.schedule.specs.Cursors.{event_of, step_of}
use Rattle.schedule.specs.Turns.{Step, Happens}

-- a turn that names an action: the action is there, and its event is the step
pub record IsEventAt (actions : List Action) (place : ℕ) (step : Step) : Type 0 where
  pub action : Action
  pub there : slice_get actions place ≡ Some action
  pub event : Event
  pub of_action : event_of action.what ≡ Some event
  pub happens : step ≡ Happens event

pub event_at : (actions : List Action) (place : ℕ) (step : Step) → step_of actions (turn.Action place) ≡ Some step → IsEventAt actions place step
event_at actions place step h = found (slice_get actions place) refl h
  where
    of : (action : Action) (v : Option Event) → slice_get actions place ≡ Some action → event_of action.what ≡ v → option_map Happens v ≡ Some step →
        IsEventAt actions place step
    of action None there is e = absurd (let nothing : None ≡ Some step = e in cc)
    of action (Some v) there is e = record {
      action = action;
      there = there;
      event = v;
      of_action = is;
      happens = let same : Some (Happens v) ≡ Some step = e in
          cc;
    }

    found : (a : Option Action) → slice_get actions place ≡ a → option_map Happens (option_and_then (λ (action : Action). event_of action.what) a) ≡ Some step →
        IsEventAt actions place step
    found None there e = absurd (let nothing : None ≡ Some step = e in cc)
    found (Some action) there e = of action (event_of action.what) there refl e

-- the action at a place keeps the rules behind those before it
pub allowed_at : (nodes : List NodeLine) (files : List FileLine) (tally : Tally) (actions : List Action) (place : ℕ) (action : Action) →
    AreActions nodes files tally actions → slice_get actions place ≡ Some action →
    IsWhat nodes files (tally_from tally (take place actions)) action.what
allowed_at nodes files tally [] place action rules there = cc
allowed_at nodes files tally (x ∷ xs) zero action rules there =
    let same : x ≡ action = cc in
    let P : Action → Type 0 = λ a. IsWhat nodes files tally a.what in subst P same rules.0.allowed
allowed_at nodes files tally (x ∷ xs) (suc place) action rules there =
    allowed_at nodes files (tallied tally x.what) xs place action rules.1 there

-- commands are counted upwards
one_more : (tally : Tally) (w : What) → tally.commands ≤ (tallied tally w).commands
one_more tally (what.Command number node command) = omega arith
one_more tally (what.Settle n) = omega arith
one_more tally (what.Deliver n) = omega arith
one_more tally (what.Shuffle seed count) = omega arith
one_more tally (what.Dup n) = omega arith
one_more tally (what.Noise node bytes) = omega arith

pub commands_from : (tally : Tally) (actions : List Action) → tally.commands ≤ (tally_from tally actions).commands
commands_from tally [] = omega arith
commands_from tally (x ∷ xs) =
    let one = one_more tally x.what in let more = commands_from (tallied tally x.what) xs in omega arith

pub commands_rise : (tally : Tally) (actions : List Action) (i j : ℕ) → i ≤ j →
    (tally_from tally (take i actions)).commands ≤ (tally_from tally (take j actions)).commands
commands_rise tally actions zero j le = commands_from tally (take j actions)
commands_rise tally actions (suc i) zero le = absurd (omega arith)
commands_rise tally [] (suc i) (suc j) le = omega arith
commands_rise tally (x ∷ xs) (suc i) (suc j) le = commands_rise (tallied tally x.what) xs i j (omega arith)
