-- The action at a cursor's place, and the turn that it is.
use Rattle.std.proofs.Common.{◌≡◌, ◌<◌, ◌≤◌, ℕ, zero, suc, Option, Some, None, List, [], ◌∷◌, ◌++◌, length, drop, slice_index_or, option_map, IsNone, refl, sym}
use Rattle.std.proofs.Common.{subst, ap, ◌∙◌, arith}
use Rattle.scenario_reader.specs.declared.action.Action.{Action}
use Rattle.scenario_reader.specs.declared.action.What.{What}
use Rattle.scenario_reader.specs.declared.action.What.TheVariants as what
use Rattle.scenario_reader.specs.declared.node.NodeLine.{NodeLine}
use Rattle.scenario_reader.specs.declared.node.FileLine.{FileLine}
use Rattle.scenario_reader.specs.declared.tally.Tally.{Tally}
use Rattle.scenario_reader.specs.Rules.{AreActions, IsWhat}
use Rattle.scenario_reader.specs.Tallies.{tallied}
use Rattle.overlay_rules.specs.Played.{Action as Act}
use Rattle.schedule.specs.declared.turn.Turn.{Turn}
use Rattle.schedule.specs.declared.turn.Turn.TheVariants as turn
use Rattle.schedule.specs.Begun.{HasCopies}
use Rattle.schedule.specs.Cursors.{Spot, IsAtPlace, event_of, step_of, turn_at}
use Rattle.schedule.specs.Schedule.{act_of, acts_of}
use Rattle.schedule.specs.Turns.{Step, Happens, Turned, turned}

-- an action that the rules allow makes copies
has_copies : (nodes : List NodeLine) (files : List FileLine) (tally : Tally) (w : What) → IsWhat nodes files tally w → HasCopies w
has_copies nodes files tally (what.Command number node command) h = tt
has_copies nodes files tally (what.Settle n) h = tt
has_copies nodes files tally (what.Deliver n) h = tt
has_copies nodes files tally (what.Shuffle seed count) h = tt
has_copies nodes files tally (what.Dup n) h = h.0
has_copies nodes files tally (what.Noise node bytes) h = tt

pub copies_at : (nodes : List NodeLine) (files : List FileLine) (tally : Tally) (actions : List Action) (place : ℕ) (d : Action) →
    AreActions nodes files tally actions → place < length actions → HasCopies (slice_index_or actions place d).what
copies_at nodes files tally [] place d rules h = absurd (omega arith)
copies_at nodes files tally (action ∷ actions) zero d rules h = has_copies nodes files tally action.what rules.0.allowed
copies_at nodes files tally (action ∷ actions) (suc place) d rules h =
    copies_at nodes files (tallied tally action.what) actions place d rules.1 (omega arith)

-- a turn that has its meaning without any action names none
pub at_place : (old new : Spot) (t : Turn) (step : Step) → ((actions : List Action) → step_of actions t ≡ Some step) → old.place ≤ new.place →
    IsAtPlace old new t
at_place old new (turn.Action place) step h le = absurd (nothing (h []))
  where
    nothing : None ≡ Some step → ⊥
    nothing e = cc
at_place old new (turn.Deliver message) step h le = le
at_place old new turn.Skip step h le = le
at_place old new turn.Finished step h le = le

-- an action that is an event is the turn at its place
event_turn : (w : What) (acts : List Act) (copies sent : ℕ) (oldest : Option ℕ) → (IsNone (event_of w) → ⊥) →
    option_map Happens (event_of w) ≡ Some (turned (act_of w ∷ acts) copies sent oldest).step
event_turn (what.Command number node command) acts copies sent oldest h = refl
event_turn (what.Settle n) acts copies sent oldest h = absurd (h refl)
event_turn (what.Deliver n) acts copies sent oldest h = absurd (h refl)
event_turn (what.Shuffle seed count) acts copies sent oldest h = absurd (h refl)
event_turn (what.Dup n) acts copies sent oldest h = absurd (h refl)
event_turn (what.Noise node bytes) acts copies sent oldest h = refl

pub turn_there : (actions : List Action) (place : ℕ) (action : Action) (copies sent : ℕ) (oldest : Option ℕ) → place < length actions →
    action ≡ slice_index_or actions place action → (IsNone (event_of action.what) → ⊥) →
    step_of actions (turn.Action place) ≡ Some (turned (acts_of (drop place actions)) copies sent oldest).step
turn_there [] place action copies sent oldest h is event = absurd (omega arith)
turn_there (x ∷ xs) zero action copies sent oldest h is event =
    event_turn x.what (acts_of xs) copies sent oldest (subst (λ (a : Action). IsNone (event_of a.what) → ⊥) is event)
turn_there (x ∷ xs) (suc place) action copies sent oldest h is event =
    turn_there xs place action copies sent oldest (omega arith) is event

-- what is left at a cursor, where what began last has no more turns
pub past_begun : (actions : List Action) (first spot : Spot) (sent : ℕ) (oldest : Option ℕ) (place : ℕ) → place ≡ spot.place →
    turn_at actions spot sent oldest ≡ turn_at actions first sent oldest →
    ((acts : List Act) → turned (spot.begun ++ acts) spot.copies sent oldest ≡ turned acts spot.copies sent oldest) →
    turned (acts_of (drop place actions)) spot.copies sent oldest ≡ turn_at actions first sent oldest
past_begun actions first spot sent oldest place at same none =
    ap (λ n. turned (acts_of (drop n actions)) spot.copies sent oldest) at ∙ sym (none (acts_of (drop spot.place actions))) ∙ same

-- the turn of an action that is an event
pub event_there : (actions : List Action) (first spot : Spot) (sent : ℕ) (oldest : Option ℕ) (place : ℕ) (action : Action) → place ≡ spot.place →
    turn_at actions spot sent oldest ≡ turn_at actions first sent oldest →
    ((acts : List Act) → turned (spot.begun ++ acts) spot.copies sent oldest ≡ turned acts spot.copies sent oldest) →
    place < length actions → action ≡ slice_index_or actions place action → (IsNone (event_of action.what) → ⊥) →
    step_of actions (turn.Action place) ≡ Some (turn_at actions first sent oldest).step
event_there actions first spot sent oldest place action at same none h is event =
    turn_there actions place action spot.copies sent oldest h is event ∙
    ap (λ (t : Turned). Some t.step) (past_begun actions first spot sent oldest place at same none)
