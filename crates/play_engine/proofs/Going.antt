-- A turn that was made: the play has come as far as the cursor behind it.
use Rattle.std.proofs.Common.{◌≡◌, ◌≢◌, ◌<◌, ◌≤◌, ◌^◌, ℕ, ◌+◌, Option, Some, length, refl, sym, subst, ap, ◌∙◌, arith}
use Rattle.overlay_rules.specs.declared.entry.Event.TheVariants as event
use Rattle.overlay_rules.specs.Record.{World, sent_in, world_at_start}
use Rattle.overlay_rules.specs.Played.{Play, entry_of, oldest_undelivered}
use Rattle.overlay_rules.proofs.Histories.{run-push, past_of_run}
use Rattle.scenario_reader.specs.Plain.{PlainScenario}
use Rattle.scenario_reader.specs.Rules.{KeepsRules}
use Rattle.schedule.specs.declared.turn.Turn.{Turn}
use Rattle.schedule.specs.declared.turn.Turn.TheVariants as turn
use Rattle.schedule.specs.Cursors.{Spot, left_at, turn_at, step_of, IsAtPlace}
use Rattle.schedule.specs.Playing.{IsPlayedTo, IsBeginning}
use Rattle.schedule.specs.Schedule.{play_of}
use Rattle.schedule.specs.Turns.{Step, Happens, Skips, Ends, Turned, turned, play_after, world_after, skipped_after}
use Rattle.schedule.proofs.Beginnings.{played_so_far}
use Rattle.schedule.proofs.Playing.{played_on}
use Rattle.schedule.proofs.Settling.{oldest_was_sent}
use Rattle.world_model.specs.Recorded.{Recorded, setting_of, world_of}
use Rattle.play_engine.specs.Advance.{next_turn, TakesTurn, IsNext, recorded_after, progress_after, moved_to}
use Rattle.play_engine.specs.Coming.{CanCome}
use Rattle.play_engine.specs.Progress.{Progress, PlaysOn, Plays, play_in, left_in, draws}
use Rattle.play_engine.proofs.Deliveries.{delivers_sent, turns_drawn}
use Rattle.play_engine.proofs.Numbers.{event_at, newest_after, can_act_at}

pub past_of : (r : Recorded) → (world_of r).past ≡ r.entries
past_of r = past_of_run (world_at_start (setting_of r)) r.entries

-- ---- the turn of a cursor

pub is_next : (s : PlainScenario) (a : Progress) (first spot : Spot) (t : Turn) (sent : ℕ) (oldest : Option ℕ) → first ≡ a.spot →
    sent ≡ length (sent_in a.recorded.entries) → oldest ≡ oldest_undelivered (world_of a.recorded) →
    step_of s.actions t ≡ Some (turn_at s.actions first sent oldest).step →
    left_at s.actions spot ≡ (turn_at s.actions first sent oldest).left →
    spot.copies ≡ (turn_at s.actions first sent oldest).copies → IsAtPlace first spot t → IsNext s a spot t
is_next s a first spot t sent oldest is_first is_sent is_oldest step left copies place = record {
  step = step ∙ ap (λ (t : Turned). Some t.step) same;
  left = left ∙ ap (λ (t : Turned). t.left) same;
  copies = copies ∙ ap (λ (t : Turned). t.copies) same;
  place = subst (λ (f : Spot). IsAtPlace f spot t) is_first place;
}
  where
    same : turn_at s.actions first sent oldest ≡ next_turn s a
    same =
        ap (λ (f : Spot). turn_at s.actions f sent oldest) is_first ∙
        ap (λ n. turned (left_in s a) a.spot.copies n oldest) (is_sent ∙ sym (ap (λ es. length (sent_in es)) (past_of a.recorded))) ∙
        ap (λ o. turned (left_in s a) a.spot.copies (length (sent_in (world_of a.recorded).past)) o) is_oldest

-- ---- the play after it

world_goes : (step : Step) (r : Recorded) → world_of (recorded_after step r) ≡ world_after step (world_of r)
world_goes (Happens v) r = run-push (world_at_start (setting_of r)) r.entries (entry_of (world_of r) v)
world_goes Skips r = refl
world_goes Ends r = refl

same_nodes : (step : Step) (r : Recorded) → (recorded_after step r).nodes ≡ r.nodes
same_nodes (Happens v) r = refl
same_nodes Skips r = refl
same_nodes Ends r = refl

same_founder : (step : Step) (r : Recorded) → (recorded_after step r).founder ≡ r.founder
same_founder (Happens v) r = refl
same_founder Skips r = refl
same_founder Ends r = refl

-- the progress after a turn
abbrev pub advanced : PlainScenario → Progress → Spot → Progress
advanced s a spot = moved_to spot (progress_after (next_turn s a).step a)

pub play_goes : (s : PlainScenario) (a : Progress) (spot : Spot) (t : Turn) → IsNext s a spot t →
    play_in (advanced s a spot) ≡ play_after (next_turn s a) (play_in a)
play_goes s a spot t next =
    ap (λ (w : World). record { world = w; copies = spot.copies; skipped = skipped_after (next_turn s a).step a.skipped })
    (world_goes (next_turn s a).step a.recorded) ∙
    ap (λ n. record { world = world_after (next_turn s a).step (world_of a.recorded); copies = n; skipped = skipped_after (next_turn s a).step a.skipped })
    next.copies

-- the skips that came and can come do not become more
turn_drawn : (s : PlainScenario) (a : Progress) → PlaysOn s a →
    skipped_after (next_turn s a).step a.skipped + draws (next_turn s a).copies (next_turn s a).left ≤ 1000000
turn_drawn s a h =
    let few = h.skips in
    let turn = turns_drawn (left_in s a) a.spot.copies (length (sent_in (world_of a.recorded).past)) (oldest_undelivered (world_of a.recorded)) a.skipped in
    omega arith

pub skips_after : (s : PlainScenario) (a : Progress) (spot : Spot) (t : Turn) → PlaysOn s a → IsNext s a spot t →
    skipped_after (next_turn s a).step a.skipped + draws spot.copies (left_at s.actions spot) ≤ 1000000
skips_after s a spot t h next =
    subst (λ n. skipped_after (next_turn s a).step a.skipped + draws n (left_at s.actions spot) ≤ 1000000) (sym next.copies)
    (subst (λ acts. skipped_after (next_turn s a).step a.skipped + draws (next_turn s a).copies acts ≤ 1000000) (sym next.left) (turn_drawn s a h))

-- what is left plays on from there
pub played_after : (s : PlainScenario) (a : Progress) (spot : Spot) (t : Turn) → Plays s a → IsNext s a spot t →
    IsPlayedTo s spot (play_after (next_turn s a) (play_in a))
played_after s a spot t h next =
    played_on s a.spot spot (play_in a) (length (sent_in (world_of a.recorded).past)) (oldest_undelivered (world_of a.recorded)) refl refl
    next.left next.copies h.played

pub plays_on_after : (s : PlainScenario) (a : Progress) (spot : Spot) (t : Turn) → KeepsRules s → PlaysOn s a → IsNext s a spot t →
    PlaysOn s (advanced s a spot)
plays_on_after s a spot t rules h next = record {
  nodes = same_nodes (next_turn s a).step a.recorded ∙ h.nodes;
  founder = same_founder (next_turn s a).step a.recorded ∙ h.founder;
  newest = newest_after s a spot t (next_turn s a).step rules h next.place next.step;
  skips = skips_after s a spot t h next;
}

pub plays_after : (s : PlainScenario) (a : Progress) (spot : Spot) (t : Turn) → KeepsRules s → Plays s a → IsNext s a spot t → Plays s (advanced s a spot)
plays_after s a spot t rules h next = record {
  on = plays_on_after s a spot t rules h.on next;
  played = subst (λ (p : Play). IsPlayedTo s spot p) (sym (play_goes s a spot t next)) (played_after s a spot t h next);
}

pub takes_turn : (s : PlainScenario) (a : Progress) (spot : Spot) (t : Turn) → IsNext s a spot t → (next_turn s a).step ≢ Ends →
    TakesTurn s a (advanced s a spot)
takes_turn s a spot t next some = record { some = some; play = play_goes s a spot t next; left = next.left }

pub begins : (s : PlainScenario) (a : Progress) → Plays s a → IsBeginning (play_in a) (play_of s)
begins s a h = played_so_far s a.spot (play_in a) h.played

-- ---- it can come

skip_counts : (s : PlainScenario) (a : Progress) (spot : Spot) → PlaysOn s a → IsNext s a spot turn.Skip → a.skipped + 1 < 2 ^ 64
skip_counts s a spot h next =
    let skips : Skips ≡ (next_turn s a).step = some_same next.step in
    let one : skipped_after (next_turn s a).step a.skipped ≡ a.skipped + 1 = ap (λ step. skipped_after step a.skipped) (sym skips) in
    let few = turn_drawn s a h in omega arith
  where
    some_same : {a b : Step} → Some a ≡ Some b → a ≡ b
    some_same e = cc

message_sent : (s : PlainScenario) (a : Progress) (spot : Spot) (m : ℕ) → IsNext s a spot (turn.Deliver m) → m < length (sent_in a.recorded.entries)
message_sent s a spot m next =
    let happens : (next_turn s a).step ≡ Happens (event.Deliver m) = some_same (sym next.step) in
    let below = delivers_sent (left_in s a) a.spot.copies (length (sent_in (world_of a.recorded).past)) (oldest_undelivered (world_of a.recorded)) m
    (λ o is. oldest_was_sent (world_of a.recorded) o is) happens in
    let same = ap (λ es. length (sent_in es)) (past_of a.recorded) in omega arith
  where
    some_same : {a b : Step} → Some a ≡ Some b → a ≡ b
    some_same e = cc

pub can_come : (s : PlainScenario) (a : Progress) (spot : Spot) (t : Turn) → KeepsRules s → PlaysOn s a → IsNext s a spot t → CanCome s.actions a t
can_come s a spot (turn.Action place) rules h next = (
  (event_at s.actions place (next_turn s a).step next.step).within,
  λ d. can_act_at s a place (next_turn s a).step d rules h next.place.0 next.step,
)
can_come s a spot (turn.Deliver m) rules h next = message_sent s a spot m next
can_come s a spot turn.Skip rules h next = skip_counts s a spot h next
can_come s a spot turn.Finished rules h next = tt
