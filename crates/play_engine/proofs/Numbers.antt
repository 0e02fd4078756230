-- A command's number is one more than the commands before it.
use Rattle.std.proofs.Common.{◌≡◌, ◌<◌, ◌≤◌, ℕ, zero, suc, ◌+◌, Option, Some, None, List, [], ◌∷◌, length, take, slice_index_or, option_map, Contains, refl}
use Rattle.std.proofs.Common.{sym, subst, ap, ◌∙◌, arith}
use Rattle.wire_msg.specs.declared.command.Command.{Command as NodeCommand}
use Rattle.wire_msg.specs.declared.command.Command.TheVariants as command
use Rattle.overlay_rules.specs.declared.entry.Event.{Event}
use Rattle.overlay_rules.specs.declared.entry.Event.TheVariants as event
use Rattle.overlay_rules.specs.Record.{Setting}
use Rattle.step_facts.specs.Receivers.{ViaIs}
use Rattle.scenario_reader.specs.declared.action.Action.{Action}
use Rattle.scenario_reader.specs.declared.action.What.{What}
use Rattle.scenario_reader.specs.declared.action.What.TheVariants as what
use Rattle.scenario_reader.specs.declared.node.NodeLine.{NodeLine}
use Rattle.scenario_reader.specs.declared.node.FileLine.{FileLine}
use Rattle.scenario_reader.specs.declared.tally.Tally.{Tally}
use Rattle.scenario_reader.specs.Plain.{PlainScenario, ids}
use Rattle.scenario_reader.specs.Rules.{AreActions, IsWhat, IsCommand, KeepsRules}
use Rattle.scenario_reader.specs.Tallies.{start, tallied, tally_from}
use Rattle.schedule.specs.declared.turn.Turn.{Turn}
use Rattle.schedule.specs.declared.turn.Turn.TheVariants as turn
use Rattle.schedule.specs.Cursors.{Spot, IsAtPlace, event_of, step_of}
use Rattle.schedule.specs.Turns.{Step, Happens, Skips, Ends}
use Rattle.world_model.specs.Numbers.{IsNumberedBelow, IsNewest}
use Rattle.world_model.specs.Recorded.{Recorded, setting_of}
use Rattle.world_model.proofs.Newest.{newest_more, newest_push}
use Rattle.play_engine.specs.Advance.{recorded_after}
use Rattle.play_engine.specs.Coming.{CanAct}
use Rattle.play_engine.specs.Progress.{Progress, PlaysOn, commands_before}

-- ---- the action at a place

-- the action at a place is this event alone
pub record IsEventAt (actions : List Action) (place : ℕ) (step : Step) : Type 0 where
  pub within : place < length actions
  pub event : Event
  pub is : (d : Action) → event_of (slice_index_or actions place d).what ≡ Some event
  pub happens : Happens event ≡ step

pub event_at : (actions : List Action) (place : ℕ) (step : Step) → step_of actions (turn.Action place) ≡ Some step → IsEventAt actions place step
event_at [] place step h = cc
event_at (x ∷ xs) zero step h = by (event_of x.what) refl h
  where
    by : (o : Option Event) → event_of x.what ≡ o → option_map Happens o ≡ Some step → IsEventAt (x ∷ xs) zero step
    by None is named = cc
    by (Some v) is named = record { within = omega arith; event = v; is = λ d. is; happens = cc }
event_at (x ∷ xs) (suc place) step h =
    let rest = event_at xs place step h in
    record { within = (let inside = rest.within in omega arith); event = rest.event; is = λ d. rest.is d; happens = rest.happens }

pub step_at : (actions : List Action) (place : ℕ) (d : Action) (v : Event) (step : Step) → step_of actions (turn.Action place) ≡ Some step →
    event_of (slice_index_or actions place d).what ≡ Some v → Happens v ≡ step
step_at actions place d v step h is =
    let there = event_at actions place step h in
    let same : there.event ≡ v = some_same (sym (there.is d) ∙ is) in
    ap (λ (e : Event). Happens e) (sym same) ∙ there.happens
  where
    some_same : {a b : Event} → Some a ≡ Some b → a ≡ b
    some_same e = cc

what_at : (nodes : List NodeLine) (files : List FileLine) (tally : Tally) (actions : List Action) (place : ℕ) (d : Action) →
    AreActions nodes files tally actions → place < length actions →
    IsWhat nodes files (tally_from tally (take place actions)) (slice_index_or actions place d).what
what_at nodes files tally [] place d rules h = absurd (omega arith)
what_at nodes files tally (action ∷ actions) zero d rules h = rules.0.allowed
what_at nodes files tally (action ∷ actions) (suc place) d rules h =
    what_at nodes files (tallied tally action.what) actions place d rules.1 (omega arith)

tally_at_next : (tally : Tally) (actions : List Action) (place : ℕ) (d : Action) → place < length actions →
    tally_from tally (take (suc place) actions) ≡ tallied (tally_from tally (take place actions)) (slice_index_or actions place d).what
tally_at_next tally [] place d h = absurd (omega arith)
tally_at_next tally (action ∷ actions) zero d h = refl
tally_at_next tally (action ∷ actions) (suc place) d h = tally_at_next (tallied tally action.what) actions place d (omega arith)

-- ---- commands only become more

tallied_rises : (tally : Tally) (w : What) → tally.commands ≤ (tallied tally w).commands
tallied_rises tally (what.Command number node command) = omega arith
tallied_rises tally (what.Settle n) = omega arith
tallied_rises tally (what.Deliver m) = omega arith
tallied_rises tally (what.Shuffle seed count) = omega arith
tallied_rises tally (what.Dup n) = omega arith
tallied_rises tally (what.Noise node bytes) = omega arith

from_rises : (tally : Tally) (actions : List Action) → tally.commands ≤ (tally_from tally actions).commands
from_rises tally [] = omega arith
from_rises tally (action ∷ actions) =
    let one = tallied_rises tally action.what in let rest = from_rises (tallied tally action.what) actions in omega arith

pub commands_rise : (tally : Tally) (actions : List Action) (place later : ℕ) → place ≤ later →
    (tally_from tally (take place actions)).commands ≤ (tally_from tally (take later actions)).commands
commands_rise tally actions zero later le = from_rises tally (take later actions)
commands_rise tally actions (suc place) zero le = absurd (omega arith)
commands_rise tally [] (suc place) (suc later) le = omega arith
commands_rise tally (action ∷ actions) (suc place) (suc later) le =
    commands_rise (tallied tally action.what) actions place later (omega arith)

-- ---- numbers in a record

numbered_next : (nodes : List NodeLine) (files : List FileLine) (tally : Tally) (w : What) (v : Event) → IsWhat nodes files tally w →
    event_of w ≡ Some v → IsNumberedBelow ((tallied tally w).commands + 1) v
numbered_next nodes files tally (what.Command number node command) v h is =
    let same : event.Command node number command ≡ v = cc in
    let n : number ≡ tally.commands + 1 = h.0 in
    subst (IsNumberedBelow (tally.commands + 1 + 1)) same (omega arith)
numbered_next nodes files tally (what.Settle n) v h is = cc
numbered_next nodes files tally (what.Deliver m) v h is = cc
numbered_next nodes files tally (what.Shuffle seed count) v h is = cc
numbered_next nodes files tally (what.Dup n) v h is = cc
numbered_next nodes files tally (what.Noise node bytes) v h is =
    let same : event.Noise node ≡ v = cc in subst (IsNumberedBelow (tally.commands + 1)) same tt

pub newest_after : (s : PlainScenario) (a : Progress) (spot : Spot) (t : Turn) (step : Step) → KeepsRules s → PlaysOn s a →
    IsAtPlace a.spot spot t → step_of s.actions t ≡ Some step →
    IsNewest (commands_before s.actions spot.place + 1) (recorded_after step a.recorded).entries
newest_after s a spot (turn.Action place) step rules h at is =
    let there = event_at s.actions place step is in
    let next : spot.place ≡ suc place = (let by = at.1 in omega arith) in
    let rise = commands_rise start s.actions a.spot.place spot.place (let low = at.0 in omega arith) in
    let old = newest_more (commands_before s.actions a.spot.place + 1) (commands_before s.actions spot.place + 1) a.recorded.entries (omega arith) h.newest in
    subst (λ st. IsNewest (commands_before s.actions spot.place + 1) (recorded_after st a.recorded).entries) there.happens
    (newest_push (commands_before s.actions spot.place + 1) a.recorded there.event old (numbered there next))
  where
    numbered : (there : IsEventAt s.actions place step) → spot.place ≡ suc place → IsNumberedBelow (commands_before s.actions spot.place + 1) there.event
    numbered there next = subst (λ p. IsNumberedBelow (commands_before s.actions p + 1) there.event) (sym next)
        (subst (λ (t : Tally). IsNumberedBelow (t.commands + 1) there.event) (sym (tally_at_next start s.actions place some_action there.within))
        (numbered_next s.nodes s.files (tally_from start (take place s.actions)) (slice_index_or s.actions place some_action).what there.event
        (what_at s.nodes s.files start s.actions place some_action rules.actions there.within) (there.is some_action)))
      where
        some_action : Action
        some_action = record { line = 0; what = what.Deliver 0 }
newest_after s a spot (turn.Deliver m) step rules h at is =
    let rise = commands_rise start s.actions a.spot.place spot.place at in
    let old = newest_more (commands_before s.actions a.spot.place + 1) (commands_before s.actions spot.place + 1) a.recorded.entries (omega arith) h.newest in
    let same : Happens (event.Deliver m) ≡ step = cc in
    subst (λ st. IsNewest (commands_before s.actions spot.place + 1) (recorded_after st a.recorded).entries) same
    (newest_push (commands_before s.actions spot.place + 1) a.recorded (event.Deliver m) old tt)
newest_after s a spot turn.Skip step rules h at is =
    let rise = commands_rise start s.actions a.spot.place spot.place at in
    let same : Skips ≡ step = cc in
    subst (λ st. IsNewest (commands_before s.actions spot.place + 1) (recorded_after st a.recorded).entries) same
    (newest_more (commands_before s.actions a.spot.place + 1) (commands_before s.actions spot.place + 1) a.recorded.entries (omega arith) h.newest)
newest_after s a spot turn.Finished step rules h at is =
    let rise = commands_rise start s.actions a.spot.place spot.place at in
    let same : Ends ≡ step = cc in
    subst (λ st. IsNewest (commands_before s.actions spot.place + 1) (recorded_after st a.recorded).entries) same
    (newest_more (commands_before s.actions a.spot.place + 1) (commands_before s.actions spot.place + 1) a.recorded.entries (omega arith) h.newest)

-- ---- the action at a place can come

joins_by_node : (g : Setting) (nodes : List NodeLine) (files : List FileLine) (node number : ℕ) (c : NodeCommand) → g.nodes ≡ ids nodes →
    IsCommand nodes files c → ViaIs g (event.Command node number c)
joins_by_node g nodes files node number (command.Join via) is h = subst (λ (ns : List ℕ). Contains ns via) (sym is) h
joins_by_node g nodes files node number (command.Lookup key) is h = tt
joins_by_node g nodes files node number (command.Insert file copies bytes) is h = tt
joins_by_node g nodes files node number (command.Fetch file) is h = tt
joins_by_node g nodes files node number command.GiveUp is h = tt
joins_by_node g nodes files node number (command.Reclaim file) is h = tt

can_act : (nodes : List NodeLine) (files : List FileLine) (tally : Tally) (w : What) (v : Event) (r : Recorded) → r.nodes ≡ ids nodes →
    IsWhat nodes files tally w → IsNewest (tally.commands + 1) r.entries → event_of w ≡ Some v → CanAct r w
can_act nodes files tally (what.Command number node command) v r is h newest named = (
  subst (λ (ns : List ℕ). Contains ns node) (sym is) h.1,
  subst (λ n. IsNewest n r.entries) (sym h.0) newest,
  joins_by_node (setting_of r) nodes files node number command is h.2,
)
can_act nodes files tally (what.Settle n) v r is h newest named = cc
can_act nodes files tally (what.Deliver m) v r is h newest named = cc
can_act nodes files tally (what.Shuffle seed count) v r is h newest named = cc
can_act nodes files tally (what.Dup n) v r is h newest named = cc
can_act nodes files tally (what.Noise node bytes) v r is h newest named = subst (λ (ns : List ℕ). Contains ns node) (sym is) h.0

pub can_act_at : (s : PlainScenario) (a : Progress) (place : ℕ) (step : Step) (d : Action) → KeepsRules s → PlaysOn s a → a.spot.place ≤ place →
    step_of s.actions (turn.Action place) ≡ Some step → CanAct a.recorded (slice_index_or s.actions place d).what
can_act_at s a place step d rules h le is =
    let there = event_at s.actions place step is in
    let rise = commands_rise start s.actions a.spot.place place le in
    can_act s.nodes s.files (tally_from start (take place s.actions)) (slice_index_or s.actions place d).what there.event a.recorded h.nodes
    (what_at s.nodes s.files start s.actions place d rules.actions there.within)
    (newest_more (commands_before s.actions a.spot.place + 1) (commands_before s.actions place + 1) a.recorded.entries (omega arith) h.newest)
    (there.is d)
